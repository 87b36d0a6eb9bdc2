-- The table tracks the history with one more Prepare.
use Rattle.std.proofs.Common.{◌≡◌, ℕ, ◌-◌, List, ◌∷◌, map, reverse, not, ◌&&◌, cond, refl, sym, ap, ◌∙◌, subst, inl, inr, ⊎_elim, Some, None}
use Rattle.deneva_base.specs.declared.keys.Key.{Key}
use Rattle.deneva_base.specs.declared.numbers.Attempt.{Attempt}
use Rattle.deneva_base.specs.declared.causes.Bound.{Bound}
use Rattle.deneva_base.specs.declared.causes.Cause.{Cause}
use Rattle.deneva_base.specs.declared.rows.Keyed.{Keyed}
use Rattle.deneva_base.specs.declared.answers.Vote.{Vote}
use Rattle.deneva_base.specs.declared.answers.Vote.TheVariants.{Yes, No}
use Rattle.deneva_base.specs.Lists.{IsIn}
use Rattle.deneva_base.specs.Rows.{Rows}
use Rattle.deneva_base.specs.Modes.{reads}
use Rattle.deneva_base.specs.Keys.{key_eq, attempt_eq, number_lt}
use Rattle.protocol_rules.specs.Conditions.{MayPrepare}
use Rattle.protocol_rules.specs.History.{Prepare, History, Grant, Yea, Decided, grants, yeas, decided, ended}
use Rattle.protocol_rules.specs.Latest.{has_ended}
use Rattle.protocol_rules.specs.Ranged.{lists}
use Rattle.deneva_base.proofs.Membership.{filter_in, and_parts, key_decides, attempt_tells}
use Rattle.protocol_rules.proofs.Sound.{Sound}
use Rattle.range_control.specs.declared.ends.Upper.{Upper}
use Rattle.range_control.specs.declared.accesses.Window.{Window}
use Rattle.range_control.specs.declared.accesses.Held.{Held}
use Rattle.range_control.specs.declared.table.Table.{Table}
use Rattle.range_control.specs.Ends.{upper_before}
use Rattle.range_control.specs.Seen.{Accesses}
use Rattle.range_control.specs.Accesses.{prepared_in}
use Rattle.range_control.specs.Tables.{prepared_at}
use Rattle.range_control.specs.Changes.{VotesYes, Votes}
use Rattle.range_control.specs.Standing.{State, state_of, is_held, held_here, window_in, under_decided, held_of, Tracks}
use Rattle.range_control.proofs.Firsts.{first_same}
use Rattle.range_control.proofs.Lists.{map_both}
use Rattle.range_control.proofs.Histories.{wrote_other}
use Rattle.range_control.proofs.Holders.{reverse_in, own_cases, real}
use Rattle.shelf.specs.Shelves.{held}
use Rattle.shelf.proofs.Keeps.{keeps_promised, keeps_no}
use Rattle.range_control.proofs.Changing.{changed_is, prepared_twice, prepared_none}

attempt_sym : (a b : Attempt) → attempt_eq a b ≡ attempt_eq b a
attempt_sym a b = ⊎_elim
    (λ t. t.0 ∙ sym (⊎_elim (λ u. u.0) (λ f. absurd (f.1 (sym t.1))) (attempt_tells b a)))
    (λ f. f.0 ∙ sym (⊎_elim (λ u. absurd (f.1 (sym u.1))) (λ g. g.0) (attempt_tells b a)))
    (attempt_tells a b)

module _ (loaded : Rows) (h : History) (sound : Sound loaded h) (who : Attempt) (bound : Bound) (writes appends : List Keyed) (may : MayPrepare h who bound writes appends) where
  module _ (lo hi : ℕ) where
    abbrev after : History
    after = Prepare who bound writes appends (Yes lo hi) ∷ h

    abbrev window : Key → Window
    window key = record { lo = lo; hi = hi; writes = lists writes key }

    -- what committed attempts leave an access stays
    under_stays : (g : Grant) (d : Decided) → IsIn d (decided h) → under_decided after g d ≡ under_decided h g d
    under_stays g d i =
        let under : Upper = record { n = d.number.n - 1; by = d.who } in
        ap (λ b. cond (reads g.mode && (b && number_lt g.version d.number)) (Some under) None)
        (wrote_other h who d.who writes g.key (λ e. may.unended (subst (λ a. IsIn a (ended h)) (sym e) (sound.ends d i))))

    held_after : (g : Grant) (key : Key) → g.key ≡ key → prepared_in who (window key) (held_of h g) ≡ held_of after g
    held_after g key k =
        let upper = first_same upper_before (under_decided h g) (under_decided after g) None (reverse (decided h)) (λ d i. sym (under_stays g d (reverse_in d (decided h) i))) in
        let own = ap (λ b. cond b (Some (window key)) (window_in (yeas h) g.who g.key)) (attempt_sym g.who who) ∙ ap (λ q. cond (attempt_eq who g.who) (Some (window q)) (window_in (yeas h) g.who g.key)) (sym k) in
        λ i. record { who = g.who; mode = g.mode; version = g.version; upper = upper i; window = own i }

    -- each access of the attempt is at one of its keys
    pub prepared_lines : (old new : Table) → Tracks loaded (state_of old) h → VotesYes who lo hi writes appends old new → (k : Key) → (state_of new).lines k ≡ prepared_at who lo hi writes k ((state_of old).lines k)
    prepared_lines old new t c k =
        let s : State = state_of old in
        c.lines k ∙ changed_is (prepared_at who lo hi writes) (held s.shelf who).keys k (s.lines k) (prepared_twice who (window k) (s.lines k))
        (⊎_elim
        (λ x.
        let r = real loaded h s t k x.0 x.1 in
        let same : r.0.who ≡ who = sym (ap (λ (z : Held). z.who) r.4) ∙ x.2 in
        inl (subst (λ q. IsIn q (held s.shelf who).keys) r.3 (subst (λ w. IsIn r.0.key (held s.shelf w).keys) same (t.kept.noted r.0 r.1 r.2))))
        (λ n. inr (prepared_none who (window k) (s.lines k) n.0))
        (own_cases who (s.lines k).held))

    pub prepared_tracks : (old new : Table) → Tracks loaded (state_of old) h → VotesYes who lo hi writes appends old new → Tracks loaded (state_of new) after
    prepared_tracks old new t c =
        let s : State = state_of old in
        let s' : State = state_of new in
        let lines = prepared_lines old new t c in
        record {
          held = λ k.
              ap (λ (l : Accesses). l.held) (lines k) ∙ ap (map (prepared_in who (window k))) (t.held k)
              ∙ map_both (prepared_in who (window k)) (held_of h) (held_of after) (held_here h k)
              (λ g i. held_after g k (let f = filter_in (is_held h k) g (reverse (grants h)) i in (key_decides g.key k).0 (and_parts (key_eq g.key k) (not (has_ended h g.who)) f.1).0));
          past = λ k. ap (λ (l : Accesses). l.past) (lines k) ∙ t.past k;
          kept = keeps_promised may.unended refl t.kept c.shelf;
        }
      where
        mine : Yea
        mine = record { who = who; lo = lo; hi = hi; writes = writes; appends = appends }

  -- a No changes nothing
  refused_tracks : (s : State) (cause : Cause) → Tracks loaded s h → Tracks loaded s (Prepare who bound writes appends (No cause) ∷ h)
  refused_tracks s cause t = record {
    held = t.held;
    past = t.past;
    kept = keeps_no t.kept;
  }

  pub vote_tracks : (vote : Vote) (old new : Table) → Tracks loaded (state_of old) h → Votes vote who writes appends old new → Tracks loaded (state_of new) (Prepare who bound writes appends vote ∷ h)
  vote_tracks (Yes lo hi) old new t c = prepared_tracks lo hi old new t c
  vote_tracks (No cause) old new t c = subst (λ x. Tracks loaded (state_of x) (Prepare who bound writes appends (No cause) ∷ h)) (sym c) (refused_tracks (state_of old) cause t)
