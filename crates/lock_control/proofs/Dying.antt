-- A table under WAIT_DIE.
use Rattle.std.proofs.Common.{◌≡◌, ℕ, ◌≤◌, ◌<◌, ◌^◌, ltb, leb, List, [], ◌∷◌, map, filter, Bool, true, false, not, ◌&&◌, ◌||◌, cond, length, refl, sym, ap, ap₂, ◌∙◌, subst, inl, inr, ⊎_elim, arith, Option, Some, None, option_map, true≢false}
use Rattle.std.proofs.lemmas.Bool.Decides.{nat_tests}
use Rattle.deneva_base.specs.declared.keys.Key.{Key}
use Rattle.deneva_base.specs.declared.keys.Mode.{Mode}
use Rattle.deneva_base.specs.declared.numbers.Attempt.{Attempt}
use Rattle.deneva_base.specs.declared.numbers.Number.{Number}
use Rattle.deneva_base.specs.declared.causes.Cause.TheVariants.{Younger}
use Rattle.deneva_base.specs.declared.answers.Answer.TheVariants.{Granted, Waits, Refused}
use Rattle.deneva_base.specs.declared.answers.Wake.{Wake}
use Rattle.deneva_base.specs.Lists.{IsIn}
use Rattle.deneva_base.specs.Rows.{Row, Rows}
use Rattle.deneva_base.specs.Keys.{key_eq, number_lt}
use Rattle.protocol_rules.specs.Conditions.{MayAsk, MayCommit, MayAbort}
use Rattle.protocol_rules.specs.History.{Commit, Abort, History, Asked, Grant, grants, waits, yeas, ended, is_woken, IsUnended, Conflict}
use Rattle.protocol_rules.specs.Latest.{Version, latest, newer, row_for, seen, writes_in}
use Rattle.protocol_rules.specs.Locks.{conflicts, blockers}
use Rattle.protocol_rules.specs.Order.{by_falling_stamp}
use Rattle.deneva_base.specs.Lists.{sort}
use Rattle.protocol_rules.specs.WaitDie.{wait_die, elders, ahead, is_free, none, front, wake_of, wakes, younger_or}
use Rattle.deneva_base.proofs.Membership.{in_filter, filter_in, any_tells, any_at, and_true, and_parts, key_decides, attempt_tells}
use Rattle.protocol_rules.proofs.Sound.{Sound, sound_more}
use Rattle.protocol_rules.proofs.Known.{Known, known_more}
use Rattle.protocol_rules.proofs.Locks.{conflict_decides, blocker_in, in_blockers}
use Rattle.protocol_rules.proofs.Sorts.{Distinct, sort_in}
use Rattle.protocol_rules.proofs.Wakes.{distinct_waits}
use Rattle.protocol_rules.proofs.WaitDies.{front_in, queued, wait_die_wakes, woken_by}
use Rattle.row_store.specs.declared.versions.Version.{Version as StoredVersion}
use Rattle.row_store.specs.Stores.{version_at}
use Rattle.lock_control.specs.declared.requests.Request.{Request}
use Rattle.lock_control.specs.declared.lines.Waiter.{Waiter}
use Rattle.lock_control.specs.declared.table.Table.{Table}
use Rattle.lock_control.specs.Requests.{conflicting, least_bar, stops, is_stopped}
use Rattle.lock_control.specs.Tables.{locks_at, front_over}
use Rattle.shelf.specs.Shelves.{held}
use Rattle.lock_control.specs.Changes.{version_after, wake_for, Wakes, EndsAndWakes}
use Rattle.shelf.specs.Shelves.{read_in}
use Rattle.lock_control.specs.Standing.{state_of, owner_of, waiter_of, IsOwner, IsWaiter, Tracks, Stands}
use Rattle.shelf.specs.Keeps.{version_of}
use Rattle.lock_control.proofs.Answering.{barred_none, barred_some}
use Rattle.shelf.proofs.Versions.{read_is, version_is}
use Rattle.shelf.proofs.Closing.{waits_same}
use Rattle.lock_control.proofs.Calls.{sounds, knows, traces, grant_is, commit_tracks, abort_tracks}
use Rattle.lock_control.proofs.Waking.{to_waiter, wake_tracks}
use Rattle.shelf.proofs.Counting.{length_filter, length_sort, waits_short}
use Rattle.std.proofs.lemmas.List.{length-map}
use Rattle.lock_control.proofs.Fronts.{all_front, front_is}

none_nil : {A : Type 0} (xs : List A) → ((x : A) → IsIn x xs → ⊥) → none xs ≡ true
none_nil [] n = refl
none_nil (x ∷ xs) n = absurd (n x (inl refl))

none_some : {A : Type 0} (xs : List A) (x : A) → IsIn x xs → none xs ≡ false
none_some [] x i = absurd i
none_some (y ∷ ys) x i = refl

and_false : (a : Bool) → (a && false) ≡ false
and_false true = refl
and_false false = refl

map_same : (f g : Asked → Wake) (h : Waiter → Wake) (xs : List Asked) → ((a : Asked) → IsIn a xs → h (to_waiter a) ≡ g a) → map h (map to_waiter xs) ≡ map g xs
map_same f g h [] e = refl
map_same f g h (x ∷ xs) e = ap₂ (λ a l. a ∷ l) (e x (inl refl)) (map_same f g h xs (λ a i. e a (inr i)))

-- the latest version after an end
abbrev pub next : Option Number → Version → Option Row → Version
next None v row = v
next (Some number) v row = newer v number row

module _ (t : Table) (loaded : Rows) (h : History) (stands : Stands wait_die t loaded h) where
  kn : Known loaded h
  kn = knows wait_die wait_die_wakes t loaded h stands

  so : Sound loaded h
  so = sounds wait_die wait_die_wakes t loaded h stands

  module _ (who : Attempt) (stamp : ℕ) (key : Key) (mode : Mode) (may : MayAsk loaded h who stamp key) where
    abbrev pub asked : Request
    asked = record { who = who; stamp = stamp; mode = mode; waits = false }

    abbrev pub access : Asked
    access = record { who = who; stamp = stamp; key = key; mode = mode }

    in_elders : (g : Grant) → IsIn g (elders h access) → IsIn g (grants h) × IsUnended h g.who × Conflict g.who g.key g.mode access.who access.key access.mode × (g.stamp < stamp)
    in_elders g i =
        let f = filter_in (λ (x : Grant). ltb x.stamp stamp) g (blockers h access) i in
        let b = in_blockers h access g f.0 in
        let less = f.1 in
        (b.0, b.1, b.2, grind (arith, nat_tests, less))

    elders_in : (g : Grant) → IsIn g (grants h) → IsUnended h g.who → Conflict g.who g.key g.mode access.who access.key access.mode → g.stamp < stamp → IsIn g (elders h access)
    elders_in g i u c less = in_filter (λ (x : Grant). ltb x.stamp stamp) g (blockers h access) (blocker_in h access g i u c) (grind (arith, nat_tests, less))

    pub elder_is : (x : Request) → least_bar asked stamp None (locks_at t.lines key).requests ≡ Some x → Refused (Younger key x.who x.stamp) ≡ (wait_die loaded).ask h who stamp key mode
    elder_is x e =
        let f = barred_some loaded h kn so (traces wait_die wait_die_wakes t loaded h stands) (state_of t) stands.tracks access asked stamp refl refl (elders h access) in_elders elders_in x e in
        ap (λ (r : Request). Refused (Younger key r.who r.stamp)) f.3 ∙ ap (λ gs. younger_or key gs (is_free h access) (seen mode (latest loaded h key))) (sym f.2)

    no_elder : least_bar asked stamp None (locks_at t.lines key).requests ≡ None → (b : Bool) → is_free h access ≡ b → younger_or key [] b (seen mode (latest loaded h key)) ≡ (wait_die loaded).ask h who stamp key mode
    no_elder e b is =
        let f = barred_none loaded h kn so (traces wait_die wait_die_wakes t loaded h stands) (state_of t) stands.tracks access asked stamp refl refl (elders h access) in_elders elders_in e in
        ap₂ (λ gs c. younger_or key gs c (seen mode (latest loaded h key))) (sym f) (sym is)

    -- who is stopped is not free
    stopped_is : is_free h access ≡ not (is_stopped asked (locks_at t.lines key).requests)
    stopped_is = ⊎_elim
        (λ (f : (x : Request) × IsIn x (locks_at t.lines key).requests × (stops asked x ≡ true)).
        let p = and_parts (conflicting f.0 asked) (not f.0.waits || ltb stamp f.0.stamp) f.2 in
        ⊎_elim
        (λ (o : IsOwner h key f.0).
        let test : conflicts o.grant.who o.grant.key o.grant.mode who key mode ≡ true = and_true (key_eq o.grant.key key) (conflicting (owner_of o.grant) asked) ((key_decides o.grant.key key).1 o.here) (ap (λ z. conflicting z asked) (sym o.same) ∙ p.0) in
        let i = blocker_in h access o.grant o.there o.unended ((conflict_decides o.grant.who o.grant.key o.grant.mode who key mode).0 test) in
        ap (λ b. b && none (ahead h access)) (none_some (blockers h access) o.grant i) ∙ sym (ap not (any_at (stops asked) f.0 (locks_at t.lines key).requests f.1 f.2)))
        (λ (q : IsWaiter h key f.0).
        let c : conflicting (waiter_of q.asked) asked ≡ true = ap (λ z. conflicting z asked) (sym q.same) ∙ p.0 in
        let l : ltb stamp q.asked.stamp ≡ true = ap (λ (z : Request). not z.waits || ltb stamp z.stamp) (sym q.same) ∙ p.1 in
        let test : (conflicts q.asked.who q.asked.key q.asked.mode who key mode && ltb stamp q.asked.stamp) ≡ true = and_true (conflicts q.asked.who q.asked.key q.asked.mode who key mode) (ltb stamp q.asked.stamp) (and_true (key_eq q.asked.key key) (conflicting (waiter_of q.asked) asked) ((key_decides q.asked.key key).1 q.here) c) l in
        let i = in_filter (λ (b : Asked). conflicts b.who b.key b.mode who key mode && ltb stamp b.stamp) q.asked (waits h) q.there test in
        ap (λ b. none (blockers h access) && b) (none_some (ahead h access) q.asked i) ∙ and_false (none (blockers h access)) ∙ sym (ap not (any_at (stops asked) f.0 (locks_at t.lines key).requests f.1 f.2)))
        (stands.tracks.real key f.0 f.1))
        (λ n.
        and_true (none (blockers h access)) (none (ahead h access))
        (none_nil (blockers h access) (λ g i.
        let b = in_blockers h access g i in
        let here : IsIn (owner_of g) (locks_at t.lines key).requests = subst (λ k. IsIn (owner_of g) (locks_at t.lines k).requests) b.2.0 (stands.tracks.owned g b.0 b.1) in
        let c = (and_parts (key_eq g.key key) (conflicting (owner_of g) asked) ((conflict_decides g.who g.key g.mode who key mode).1 b.2)).1 in
        true≢false (sym (and_true (conflicting (owner_of g) asked) (not false || ltb stamp g.stamp) c refl) ∙ n (owner_of g) here)))
        (none_nil (ahead h access) (λ b i.
        let f = filter_in (λ (x : Asked). conflicts x.who x.key x.mode who key mode && ltb stamp x.stamp) b (waits h) i in
        let p = and_parts (conflicts b.who b.key b.mode who key mode) (ltb stamp b.stamp) f.1 in
        let q = and_parts (key_eq b.key key) (conflicting (waiter_of b) asked) p.0 in
        let here : IsIn (waiter_of b) (locks_at t.lines key).requests = subst (λ k. IsIn (waiter_of b) (locks_at t.lines k).requests) ((key_decides b.key key).0 q.0) (stands.tracks.queued b f.0) in
        true≢false (sym (and_true (conflicting (waiter_of b) asked) (not true || ltb stamp b.stamp) q.1 p.1) ∙ n (waiter_of b) here)))
        ∙ sym (ap not (none_any (locks_at t.lines key).requests n)))
        (any_tells (stops asked) (locks_at t.lines key).requests)
      where
        none_any : (rs : List Request) → ((x : Request) → IsIn x rs → stops asked x ≡ false) → is_stopped asked rs ≡ false
        none_any [] n = refl
        none_any (x ∷ xs) n = ap (λ b. b || is_stopped asked xs) (n x (inl refl)) ∙ none_any xs (λ y i. n y (inr i))

    pub wait_is : least_bar asked stamp None (locks_at t.lines key).requests ≡ None → is_stopped asked (locks_at t.lines key).requests ≡ true → Waits ≡ (wait_die loaded).ask h who stamp key mode
    wait_is e s = no_elder e false (stopped_is ∙ ap not s)

    pub free_is : least_bar asked stamp None (locks_at t.lines key).requests ≡ None → is_stopped asked (locks_at t.lines key).requests ≡ false → Granted (read_in mode (version_at t.shelf.store key)).0 (read_in mode (version_at t.shelf.store key)).1 0 ≡ (wait_die loaded).ask h who stamp key mode
    free_is e s = grant_is wait_die wait_die_wakes t loaded h stands who stamp key mode may ∙ no_elder e true (stopped_is ∙ ap not s)

  -- there is room to count one more
  pub few_wait : (who : Attempt) (stamp : ℕ) (key : Key) → MayAsk loaded h who stamp key → t.waiting < 2 ^ 63
  few_wait who stamp key may = let e = stands.tracks.waiting in let s = waits_short h in let m = may.short in omega (arith, e, s, m)

  -- the end of an attempt: h1 is h with it, before it wakes anyone
  module _ (who : Attempt) (number : Option Number) (h1 : History) (unended : IsUnended h who) (known1 : Known loaded h1) (same_waits : waits h1 ≡ waits h) (same_grants : grants h1 ≡ grants h) (ends : ended h1 ≡ who ∷ ended h)
      (last1 : (key : Key) → latest loaded h1 key ≡ next number (latest loaded h key) (row_for key (writes_in (yeas h) who))) where
    noted_key : (a : Asked) → IsIn a (front h1) → IsIn a.key (held t.shelf who).keys
    noted_key a i =
        let g = woken_by loaded h h1 who a (λ x j. subst (λ l. IsIn x l) same_waits j) (λ x j. subst (λ l. IsIn x l) (sym same_waits) j) (λ x j. subst (λ l. IsIn x l) (sym same_grants) j) (λ x u. ⊎_elim (λ m. inl m.1) (λ m. inr (λ j. ⊎_elim (λ e. m.1 e) (λ k. u k) (subst (λ l. IsIn x l) ends j))) (attempt_tells x who)) (queued loaded h stands.obeys).1 i in
        subst (λ k. IsIn k (held t.shelf who).keys) g.3.0 (subst (λ w. IsIn g.0.key (held t.shelf w).keys) g.2 (stands.tracks.kept.noted g.0 g.1 (subst (λ w. IsUnended h w) (sym g.2) unended)))

    distinct : Distinct (waits h)
    distinct = distinct_waits loaded (wait_die loaded) h stands.obeys

    pub front_table : front_over who t.lines (held t.shelf who).keys ≡ map to_waiter (sort by_falling_stamp (front h1))
    front_table =
        front_is loaded h h1 who kn known1 distinct same_waits same_grants ends (state_of t) stands.tracks t.lines (held t.shelf who).keys (λ k. refl)
        ∙ ap (map to_waiter) (all_front loaded h h1 who kn known1 distinct same_waits same_grants ends (state_of t) stands.tracks (held t.shelf who).keys (stands.tracks.kept.rising who) noted_key)

    pub few_woken : length (front_over who t.lines (held t.shelf who).keys) ≤ t.waiting
    few_woken =
        let e = ap (λ (l : List Waiter). length l) front_table in
        let m = length-map (sort by_falling_stamp (front h1)) to_waiter in
        let s = length_sort by_falling_stamp (front h1) in
        let f = length_filter (λ a. none (filter (λ b. key_eq b.key a.key && (leb a.stamp b.stamp && not (is_free h1 b))) (waits h1))) (waits h1) in
        let w = ap (λ (l : List Asked). length l) same_waits in
        let c = stands.tracks.waiting in
        omega (arith, e, m, s, f, w, c)

    after_is : (n : Option Number) (row : Option Row) (v : Option StoredVersion) (l : Version) → option_map version_of v ≡ Some l → option_map version_of (version_after n row v) ≡ Some (next n l row)
    after_is None row v l e = e
    after_is (Some n) None v l e = e
    after_is (Some n) (Some row) None l e = absurd (cc e)
    after_is (Some n) (Some row) (Some v) l e = one (number_lt v.number n) (get e)
      where
        get : option_map version_of (Some v) ≡ Some l → version_of v ≡ l
        get s = ap (λ o. from o) s
          where
            from : Option Version → Version
            from None = l
            from (Some x) = x

        one : (b : Bool) → version_of v ≡ l → option_map version_of (Some (cond (number_lt v.number n) (record { number = n; row = row }) v)) ≡ Some (cond (number_lt l.number n) (record { number = n; row = row }) l)
        one b is = subst (λ (z : Version). option_map version_of (Some (cond (number_lt v.number n) (record { number = n; row = row }) v)) ≡ Some (cond (number_lt z.number n) (record { number = n; row = row }) z)) is (two (number_lt v.number n))
          where
            two : (b : Bool) → option_map version_of (Some (cond b (record { number = n; row = row }) v)) ≡ Some (cond b (record { number = n; row = row }) (version_of v))
            two true = refl
            two false = refl

    pub wakes_table : map (wake_for t.shelf.store number (held t.shelf who).writes) (front_over who t.lines (held t.shelf who).keys) ≡ wakes loaded h1
    wakes_table = ap (map (wake_for t.shelf.store number (held t.shelf who).writes)) front_table ∙ map_same (wake_of loaded h1) (wake_of loaded h1) (wake_for t.shelf.store number (held t.shelf who).writes) (sort by_falling_stamp (front h1)) each
      where
        each : (a : Asked) → IsIn a (sort by_falling_stamp (front h1)) → wake_for t.shelf.store number (held t.shelf who).writes (to_waiter a) ≡ wake_of loaded h1 a
        each a i =
            let w : IsIn a (waits h) = subst (λ l. IsIn a l) same_waits (front_in h1 a (sort_in by_falling_stamp a (front h1) i)) in
            let row = kn.here a (kn.asked a w) in
            let v = version_is (wait_die loaded) stands.tracks.kept stands.obeys a.key row.0 row.1 in
            let mine = ap (row_for a.key) (stands.tracks.kept.rows who unended).0 in
            let after = ap (λ r. option_map version_of (version_after number r (version_at t.shelf.store a.key))) mine ∙ after_is number (row_for a.key (writes_in (yeas h) who)) (version_at t.shelf.store a.key) (latest loaded h a.key) v ∙ ap (λ x. Some x) (sym (last1 a.key)) in
            let r = read_is a.mode (version_after number (row_for a.key (held t.shelf who).writes) (version_at t.shelf.store a.key)) (latest loaded h1 a.key) after in
            ap (λ (x : Row × Number). record { who = a.who; key = a.key; row = x.0; version = x.1; bound = 0 }) r

  module _ (who : Attempt) (number : Number) (may : MayCommit h who number) where
    commit_known : Known loaded (Commit who number [] ∷ h)
    commit_known = known_more loaded h (Commit who number []) may so kn

    pub commit_few : length (front_over who t.lines (held t.shelf who).keys) ≤ t.waiting
    commit_few = few_woken who (Some number) (Commit who number [] ∷ h) may.unended commit_known (waits_same (waits h)) refl refl (λ k. refl)

    pub commit_wakes : map (wake_for t.shelf.store (Some number) (held t.shelf who).writes) (front_over who t.lines (held t.shelf who).keys) ≡ (wait_die loaded).commit h who number
    commit_wakes = wakes_table who (Some number) (Commit who number [] ∷ h) may.unended commit_known (waits_same (waits h)) refl refl (λ k. refl)

    pub commit_stands : (new : Table) → EndsAndWakes who (Some number) (front_over who t.lines (held t.shelf who).keys) t new → Tracks loaded (state_of new) (Commit who number ((wait_die loaded).commit h who number) ∷ h)
    commit_stands new c =
        let h1 : History = Commit who number [] ∷ h in
        wake_tracks loaded h1 (Commit who number (wakes loaded h1) ∷ h) commit_known (sound_more loaded h (Commit who number []) may so) refl
        (record { grants_more = refl; waits_less = ap (filter (λ a. not (is_woken (wakes loaded h1) a))) (sym (waits_same (waits h))); ended_same = refl; yeas_same = refl; last_same = λ k. refl })
        c.between new (commit_tracks wait_die wait_die_wakes t loaded h stands who number c.between may c.ends)
        (subst (λ f. Wakes f c.between new) (front_table who (Some number) h1 may.unended commit_known (waits_same (waits h)) refl refl (λ k. refl)) c.wakes)

  module _ (who : Attempt) (may : MayAbort h who) where
    abort_known : Known loaded (Abort who [] ∷ h)
    abort_known = known_more loaded h (Abort who []) may so kn

    pub abort_few : length (front_over who t.lines (held t.shelf who).keys) ≤ t.waiting
    abort_few = few_woken who None (Abort who [] ∷ h) may.unended abort_known (waits_same (waits h)) refl refl (λ k. refl)

    pub abort_wakes : map (wake_for t.shelf.store None (held t.shelf who).writes) (front_over who t.lines (held t.shelf who).keys) ≡ (wait_die loaded).abort h who
    abort_wakes = wakes_table who None (Abort who [] ∷ h) may.unended abort_known (waits_same (waits h)) refl refl (λ k. refl)

    pub abort_stands : (new : Table) → EndsAndWakes who None (front_over who t.lines (held t.shelf who).keys) t new → Tracks loaded (state_of new) (Abort who ((wait_die loaded).abort h who) ∷ h)
    abort_stands new c =
        let h1 : History = Abort who [] ∷ h in
        wake_tracks loaded h1 (Abort who (wakes loaded h1) ∷ h) abort_known (sound_more loaded h (Abort who []) may so) refl
        (record { grants_more = refl; waits_less = ap (filter (λ a. not (is_woken (wakes loaded h1) a))) (sym (waits_same (waits h))); ended_same = refl; yeas_same = refl; last_same = λ k. refl })
        c.between new (abort_tracks wait_die wait_die_wakes t loaded h stands who c.between may c.ends)
        (subst (λ f. Wakes f c.between new) (front_table who None h1 may.unended abort_known (waits_same (waits h)) refl refl (λ k. refl)) c.wakes)
