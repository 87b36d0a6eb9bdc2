-- The table tracks the history with the end of an attempt.
use Rattle.std.proofs.Common.{◌≡◌, ◌≢◌, suc, ◌-◌, max, [], ◌∷◌, map, filter, reverse, Bool, true, false, not, ◌&&◌, ◌||◌, cond, refl, sym, ap, ◌∙◌, subst, inl, inr, ⊎_elim, arith, Option, Some, None, option_map, true≢false}
use Rattle.deneva_base.specs.declared.keys.Key.{Key}
use Rattle.deneva_base.specs.declared.numbers.Attempt.{Attempt}
use Rattle.deneva_base.specs.declared.numbers.Number.{Number}
use Rattle.deneva_base.specs.declared.rows.Keyed.{Keyed}
use Rattle.deneva_base.specs.Lists.{IsIn, greatest_by}
use Rattle.deneva_base.specs.Rows.{Rows}
use Rattle.deneva_base.specs.Modes.{reads}
use Rattle.deneva_base.specs.Keys.{key_eq, attempt_eq, number_lt}
use Rattle.protocol_rules.specs.Conditions.{MayCommit, MayAbort}
use Rattle.protocol_rules.specs.History.{Commit, Abort, History, Grant, Yea, Decided, grants, yeas, decided}
use Rattle.protocol_rules.specs.Latest.{has_ended}
use Rattle.protocol_rules.specs.Ranged.{lists, wrote, accessed, past_committed}
use Rattle.deneva_base.proofs.Membership.{filter_in, any_at, any_found, and_true, and_parts, key_decides, attempt_decides}
use Rattle.protocol_rules.proofs.Sound.{Sound}
use Rattle.protocol_rules.proofs.Rangeds.{accessed_at}
use Rattle.control_core.specs.Leaving.{last}
use Rattle.range_control.specs.declared.ends.Upper.{Upper}
use Rattle.range_control.specs.declared.accesses.Held.{Held}
use Rattle.range_control.specs.declared.table.Table.{Table}
use Rattle.range_control.specs.Ends.{upper_before, first_of, first_by}
use Rattle.range_control.specs.Seen.{Accesses}
use Rattle.range_control.specs.Accesses.{own_in, is_writing, overtaken, passed, ended_in}
use Rattle.range_control.specs.Changes.{EndsOne}
use Rattle.range_control.specs.Standing.{State, state_of, is_held, held_here, window_in, under_decided, held_of, Tracks}
use Rattle.range_control.proofs.Firsts.{first_more}
use Rattle.range_control.proofs.Lists.{map_same, map_both, filter_map, filter_both}
use Rattle.shelf.specs.Shelves.{held}
use Rattle.shelf.specs.Keeps.{version_of, Apart, Closes}
use Rattle.shelf.proofs.Closing.{abort_closes, commit_closes}
use Rattle.shelf.proofs.Keeps.{keeps_ended, committed_rows, aborted_rows}
use Rattle.protocol_rules.proofs.Known.{Known}
use Rattle.row_store.specs.Stores.{version_at}
use Rattle.range_control.proofs.Histories.{wrote_found}
use Rattle.range_control.proofs.Holders.{reverse-cons, own_cases, own, real, window_of, window_some}
use Rattle.range_control.proofs.Changing.{not_own, changed_is, ended_none, ended_twice}

module _ (loaded : Rows) (h h' : History) (who : Attempt) (number : Option Number) (apart : Apart (yeas h)) (c : Closes h h' who) where
  -- each access of the attempt is at one of its keys
  pub closed_lines : (old new : Table) → Tracks loaded (state_of old) h → EndsOne who number old new → (k : Key) → (state_of new).lines k ≡ ended_in who number ((state_of old).lines k)
  closed_lines old new t e k =
      let s : State = state_of old in
      e.lines k ∙ changed_is (λ q. ended_in who number) (held s.shelf who).keys k (s.lines k) (ended_twice who number (s.lines k))
      (⊎_elim
      (λ x.
      let r = real loaded h s t k x.0 x.1 in
      let same : r.0.who ≡ who = sym (ap (λ (z : Held). z.who) r.4) ∙ x.2 in
      inl (subst (λ q. IsIn q (held s.shelf who).keys) r.3 (subst (λ w. IsIn r.0.key (held s.shelf w).keys) same (t.kept.noted r.0 r.1 r.2))))
      (λ n. inr (ended_none who number (s.lines k) n.0))
      (own_cases who (s.lines k).held))

  pub closed_tracks : (old new : Table) → Tracks loaded (state_of old) h → EndsOne who number old new
      → ((k : Key) → ((state_of new).lines k).held ≡ map (held_of h') (held_here h' k)) → ((k : Key) → ((state_of new).lines k).past ≡ greatest_by (past_committed h' k) (decided h'))
      → ((k : Key) → option_map version_of (version_at new.shelf.store k) ≡ last loaded h' k)
      → Tracks loaded (state_of new) h'
  closed_tracks old new t e held past versions =
      record {
        held = held;
        past = past;
        kept = keeps_ended apart c t.kept e.shelf versions;
      }

-- who is held still
held_test : (a b c : Bool) → (a && not (b || c)) ≡ ((a && not c) && not b)
held_test true true true = refl
held_test true true false = refl
held_test true false true = refl
held_test true false false = refl
held_test false b c = refl

abbrev other : Attempt → Grant → Bool
other who g = not (attempt_eq g.who who)

and_false : (b : Bool) → (b && false) ≡ false
and_false true = refl
and_false false = refl

module _ (loaded : Rows) (h : History) (known : Known loaded h) (sound : Sound loaded h) (apart : Apart (yeas h)) (who : Attempt) where
  pub aborted_tracks : (old new : Table) → MayAbort h who → Tracks loaded (state_of old) h → EndsOne who None old new → Tracks loaded (state_of new) (Abort who [] ∷ h)
  aborted_tracks old new may t e =
      let s : State = state_of old in
      let s' : State = state_of new in
      let h' : History = Abort who [] ∷ h in
      let c : Closes h h' who = abort_closes may in
      let lines = closed_lines loaded h h' who None apart c old new t e in
      closed_tracks loaded h h' who None apart c old new t e
      (λ k.
      ap (λ (l : Accesses). l.held) (lines k) ∙ ap (filter (not_own who)) (t.held k)
      ∙ filter_map (held_of h) (not_own who) (other who) (held_here h k) (λ g. refl)
      ∙ ap (map (held_of h)) (filter_both (is_held h k) (other who) (is_held h' k) (reverse (grants h)) (λ g. held_test (key_eq g.key k) (attempt_eq g.who who) (has_ended h g.who))))
      (λ k. ap (λ (l : Accesses). l.past) (lines k) ∙ t.past k)
      (aborted_rows t.kept e.shelf)

  module _ (number : Number) (may : MayCommit h who number) where
    abbrev after : History
    after = Commit who number [] ∷ h

    abbrev mine : Decided
    mine = record { who = who; number = number }

    abbrev under_mine : Upper
    under_mine = record { n = number.n - 1; by = who }

    -- what the commit leaves of an access
    upper_after : (g : Grant) → (held_of after g).upper ≡ first_of upper_before (held_of h g).upper (under_decided h g mine)
    upper_after g = ap (first_by upper_before (under_decided h g) None) (reverse-cons mine (decided h)) ∙ first_more upper_before (under_decided h g) None (reverse (decided h)) mine

    passed_by : (g : Grant) → wrote h who g.key ≡ true → overtaken who number (held_of h g) ≡ held_of after g
    passed_by g w =
        let upper = pick (reads g.mode && number_lt g.version number) ∙ ap (λ b. first_of upper_before (held_of h g).upper (cond (reads g.mode && (b && number_lt g.version number)) (Some under_mine) None)) (sym w) ∙ sym (upper_after g) in
        λ i. record { who = g.who; mode = g.mode; version = g.version; upper = upper i; window = window_in (yeas h) g.who g.key }
      where
        pick : (b : Bool) → cond b (first_of upper_before (held_of h g).upper (Some under_mine)) (held_of h g).upper ≡ first_of upper_before (held_of h g).upper (cond b (Some under_mine) None)
        pick true = refl
        pick false = refl

    not_passed : (g : Grant) → wrote h who g.key ≡ false → held_of h g ≡ held_of after g
    not_passed g w =
        let none : under_decided h g mine ≡ None = ap (λ b. cond (reads g.mode && (b && number_lt g.version number)) (Some under_mine) None) w ∙ ap (λ b. cond b (Some under_mine) None) (and_false (reads g.mode)) in
        let upper = sym (upper_after g ∙ ap (first_of upper_before (held_of h g).upper) none) in
        λ i. record { who = g.who; mode = g.mode; version = g.version; upper = upper i; window = window_in (yeas h) g.who g.key }

    at : (k : Key) (g : Grant) → IsIn g (held_here h k) → g.key ≡ k
    at k g i = let f = filter_in (is_held h k) g (reverse (grants h)) i in (key_decides g.key k).0 (and_parts (key_eq g.key k) (not (has_ended h g.who)) f.1).0

    -- its vote tells whether it wrote a key
    writes_same : (k : Key) → is_writing (window_in (yeas h) who k) ≡ wrote h who k
    writes_same k =
        let y = may.inside in
        ap is_writing (subst (λ a. window_in (yeas h) a k ≡ Some (window_of y.0 k)) y.2 (window_some (yeas h) y.0 k sound.one y.1)) ∙ go (wrote h who k) refl
      where
        go : (b : Bool) → wrote h who k ≡ b → lists may.inside.0.writes k ≡ b
        go true e = let f = wrote_found h who k e in subst (λ (y : Yea). lists y.writes k ≡ true) (sound.one f.0 may.inside.0 f.1 may.inside.1 (f.2 ∙ sym may.inside.2)) f.3
        go false e = no (lists may.inside.0.writes k) refl
          where
            no : (b : Bool) → lists may.inside.0.writes k ≡ b → b ≡ false
            no false q = refl
            no true q = absurd (true≢false (sym (any_at (λ (y : Yea). attempt_eq y.who who && lists y.writes k) may.inside.0 (yeas h) may.inside.1 (and_true (attempt_eq may.inside.0.who who) (lists may.inside.0.writes k) ((attempt_decides may.inside.0.who who).1 may.inside.2) q)) ∙ e))

    module _ (s : State) (t : Tracks loaded s h) where
      pass_all : (k : Key) (b : Bool) → wrote h who k ≡ b → cond b (map (overtaken who number) (s.lines k).held) (s.lines k).held ≡ map (held_of after) (held_here h k)
      pass_all k true w = ap (map (overtaken who number)) (t.held k) ∙ map_both (overtaken who number) (held_of h) (held_of after) (held_here h k) (λ g i. passed_by g (ap (wrote h who) (at k g i) ∙ w))
      pass_all k false w = t.held k ∙ map_same (held_of h) (held_of after) (held_here h k) (λ g i. not_passed g (ap (wrote h who) (at k g i) ∙ w))

      -- a key that it wrote is one that it has an access to
      unwritten : (k : Key) → ((g : Grant) → IsIn g (grants h) → g.who ≡ who → g.key ≢ k) → wrote h who k ≡ false
      unwritten k none = go (wrote h who k) refl
        where
          go : (b : Bool) → wrote h who k ≡ b → b ≡ false
          go false e = refl
          go true e =
              let y = wrote_found h who k e in
              let w = any_found (λ (x : Keyed). key_eq x.key k) y.0.writes y.3 in
              let g = sound.holds y.0 w.0 y.1 w.1 in
              absurd (none g.0 g.1 (g.2 ∙ y.2) (g.3 ∙ (key_decides w.0.key k).0 w.2))

      passes : (k : Key) → (passed who number (own_in who (s.lines k).held) (s.lines k)).held ≡ map (held_of after) (held_here h k)
      passes k = ⊎_elim
          (λ o.
          let window : (held_of h o.0).window ≡ window_in (yeas h) who k = ap (λ a. window_in (yeas h) a o.0.key) o.2 ∙ ap (window_in (yeas h) who) o.3 in
          ap (λ x. (passed who number x (s.lines k)).held) o.4
          ∙ ap (λ b. cond b (map (overtaken who number) (s.lines k).held) (s.lines k).held) (ap is_writing window ∙ writes_same k)
          ∙ pass_all k (wrote h who k) refl)
          (λ n. ap (λ x. (passed who number x (s.lines k)).held) n.0 ∙ pass_all k false (unwritten k n.1))
          (own loaded h s t who may.unended k)

      past_after : (k : Key) → (passed who number (own_in who (s.lines k).held) (s.lines k)).past ≡ max (cond (accessed h who k) (suc number.n) 0) (greatest_by (past_committed h k) (decided h))
      past_after k = ⊎_elim
          (λ o.
          let e = ap (λ x. (passed who number x (s.lines k)).past) o.4 in
          let a = ap (λ b. cond b (suc number.n) 0) (accessed_at h who k o.0 o.1 o.2 o.3) in
          let p = t.past k in
          omega (arith, e, a, p))
          (λ n.
          let e = ap (λ x. (passed who number x (s.lines k)).past) n.0 in
          let a = ap (λ b. cond b (suc number.n) 0) (unaccessed k n.1) in
          let p = t.past k in
          omega (arith, e, a, p))
          (own loaded h s t who may.unended k)
        where
          unaccessed : (k : Key) → ((g : Grant) → IsIn g (grants h) → g.who ≡ who → g.key ≢ k) → accessed h who k ≡ false
          unaccessed k none = go (accessed h who k) refl
            where
              go : (b : Bool) → accessed h who k ≡ b → b ≡ false
              go false e = refl
              go true e =
                  let f = any_found (λ (g : Grant). attempt_eq g.who who && key_eq g.key k) (grants h) e in
                  let p = and_parts (attempt_eq f.0.who who) (key_eq f.0.key k) f.2 in
                  absurd (none f.0 f.1 ((attempt_decides f.0.who who).0 p.0) ((key_decides f.0.key k).0 p.1))

    pub committed_tracks : (old new : Table) → Tracks loaded (state_of old) h → EndsOne who (Some number) old new → Tracks loaded (state_of new) after
    committed_tracks old new t e =
        let s : State = state_of old in
        let s' : State = state_of new in
        let c : Closes h after who = commit_closes known sound may in
        let lines = closed_lines loaded h after who (Some number) apart c old new t e in
        closed_tracks loaded h after who (Some number) apart c old new t e
        (λ k.
        ap (λ (l : Accesses). l.held) (lines k) ∙ ap (filter (not_own who)) (passes s t k)
        ∙ filter_map (held_of after) (not_own who) (other who) (held_here h k) (λ g. refl)
        ∙ ap (map (held_of after)) (filter_both (is_held h k) (other who) (is_held after k) (reverse (grants h)) (λ g. held_test (key_eq g.key k) (attempt_eq g.who who) (has_ended h g.who))))
        (λ k. ap (λ (l : Accesses). l.past) (lines k) ∙ past_after s t k)
        (committed_rows t.kept may.unended e.shelf)
