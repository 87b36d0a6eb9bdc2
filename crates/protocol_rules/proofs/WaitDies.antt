-- WAIT_DIE: the owners stay apart, and each waiter is held up by an owner or stands behind a waiter, of greater stamp.
use Rattle.std.proofs.Common.{◌≡◌, ◌≢◌, ◌⊎◌, ℕ, ◌<◌, ◌≤◌, List, [], ◌∷◌, ◌++◌, map, filter, Bool, true, false, not, ◌&&◌, ltb, leb, refl, sym, ap, ◌∙◌, subst, inl, inr, ⊎_elim, arith, true≢false}
use Rattle.std.specs.Prelude.{⊤}
use Rattle.std.proofs.lemmas.Bool.Decides.{nat_tests}
use Rattle.deneva_base.specs.declared.keys.Key.{Key}
use Rattle.deneva_base.specs.declared.numbers.Attempt.{Attempt}
use Rattle.deneva_base.specs.declared.numbers.Number.{Number}
use Rattle.deneva_base.specs.declared.keys.Mode.{Mode}
use Rattle.deneva_base.specs.declared.keys.Mode.TheVariants.{Read, Update, Put}
use Rattle.deneva_base.specs.Lists.{IsIn}
use Rattle.deneva_base.specs.Rows.{Rows}
use Rattle.deneva_base.specs.Keys.{key_eq}
use Rattle.deneva_base.specs.declared.answers.Answer.TheVariants.{Waits}
use Rattle.deneva_base.specs.declared.answers.Vote.{Vote}
use Rattle.deneva_base.specs.declared.answers.Vote.TheVariants.{Yes, No}
use Rattle.deneva_base.specs.declared.answers.Wake.{Wake}
use Rattle.protocol_rules.specs.History.{Call, Ask, Prepare, Commit, Abort, History, Asked, Grant, grants, grant_of, grant_of_wake, asks, waits, ended, is_woken, IsUnended, Conflict}
use Rattle.protocol_rules.specs.Wakes.{WakesWaiters, KeepsWakes}
use Rattle.protocol_rules.specs.Windows.{KeepsWindows}
use Rattle.protocol_rules.specs.Waits.{WaitsForYounger}
use Rattle.protocol_rules.specs.Conditions.{MayAsk, MayCommit, MayAbort}
use Rattle.protocol_rules.specs.Rules.{Obeys}
use Rattle.protocol_rules.specs.Latest.{Version, latest, seen}
use Rattle.protocol_rules.specs.Order.{Sorted, by_falling_stamp}
use Rattle.deneva_base.specs.Lists.{sort}
use Rattle.protocol_rules.specs.Locks.{conflicts, blockers}
use Rattle.protocol_rules.specs.WaitDie.{elders, ahead, none, is_free, front, wake_of, wakes, younger_or, wait_die, queue, Falls, IsHeldUp, IsBehind, StandsBehind, IsRightWake, WakesRight, FirstIsHeldUp, InTurn, WakesInTurn}
use Rattle.deneva_base.proofs.Membership.{in_map_from, in_left, in_right, in_cases, in_filter, filter_in, and_true, and_parts, key_decides, attempt_tells}
use Rattle.protocol_rules.proofs.Windows.{Fresh}
use Rattle.protocol_rules.proofs.Sound.{Sound, sound}
use Rattle.protocol_rules.proofs.Known.{Known, known, known_more, same_stamp}
use Rattle.protocol_rules.proofs.Traced.{Traced, traced, traced_more}
use Rattle.protocol_rules.proofs.VoteLaws.{keeps_wakes, VotesFresh, windows}
use Rattle.protocol_rules.proofs.Sorts.{Distinct, distinct_filter, sort_in, in_sort, sorted_sort, falling_trans, falling_total, falling_same}
use Rattle.protocol_rules.proofs.Wakes.{distinct_waits, wakes_waiters, woken_in, in_woken, wake_grants, grant_wakes}
use Rattle.protocol_rules.proofs.Locks.{conflict_decides, conflict_sym, write_conflict, blocker_in, in_blockers, Locked, Owners, locked_add, locked_grant, locked_commit, locked_abort, locked_start, seen_current, lock_fresh}

none_nil : {A : Type 0} (xs : List A) → none xs ≡ true → xs ≡ []
none_nil [] e = refl
none_nil (x ∷ xs) e = absurd (true≢false (sym e))

none_some : {A : Type 0} (xs : List A) → none xs ≡ false → (x : A) × IsIn x xs
none_some [] e = absurd (true≢false e)
none_some (x ∷ xs) e = (x, inl refl)

lt_tells : (a b : ℕ) → ((ltb a b ≡ true) × (a < b)) ⊎ ((ltb a b ≡ false) × (b ≤ a))
lt_tells a b = grind (arith, nat_tests)

le_tells : (a b : ℕ) → ((leb a b ≡ true) × (a ≤ b)) ⊎ ((leb a b ≡ false) × (b < a))
le_tells a b = grind (arith, nat_tests)

abbrev Bars : Grant → Asked → Type 0
Bars g a = Conflict g.who g.key g.mode a.who a.key a.mode

abbrev Ahead : Asked → Asked → Type 0
Ahead b a = Conflict b.who b.key b.mode a.who a.key a.mode

-- the tests as relations
ahead_in : (h : History) (a b : Asked) → IsIn b (waits h) → Ahead b a → a.stamp < b.stamp → IsIn b (ahead h a)
ahead_in h a b i c lt =
    in_filter (λ x. conflicts x.who x.key x.mode a.who a.key a.mode && ltb a.stamp x.stamp) b (waits h) i
    (and_true (conflicts b.who b.key b.mode a.who a.key a.mode) (ltb a.stamp b.stamp) ((conflict_decides b.who b.key b.mode a.who a.key a.mode).1 c) (⊎_elim (λ x. x.0) (λ x. absurd (omega (arith, lt, x.1))) (lt_tells a.stamp b.stamp)))

in_ahead : (h : History) (a b : Asked) → IsIn b (ahead h a) → IsIn b (waits h) × Ahead b a × (a.stamp < b.stamp)
in_ahead h a b i =
    let f = filter_in (λ x. conflicts x.who x.key x.mode a.who a.key a.mode && ltb a.stamp x.stamp) b (waits h) i in
    let p = and_parts (conflicts b.who b.key b.mode a.who a.key a.mode) (ltb a.stamp b.stamp) f.1 in
    (f.0, (conflict_decides b.who b.key b.mode a.who a.key a.mode).0 p.0, ⊎_elim (λ x. x.1) (λ x. absurd (true≢false (sym p.1 ∙ x.0))) (lt_tells a.stamp b.stamp))

free_owner : (h : History) (a : Asked) (g : Grant) → is_free h a ≡ true → IsIn g (grants h) → IsUnended h g.who → Bars g a → ⊥
free_owner h a g e i u c = subst (λ l. IsIn g l) (none_nil (blockers h a) (and_parts (none (blockers h a)) (none (ahead h a)) e).0) (blocker_in h a g i u c)

free_ahead : (h : History) (a b : Asked) → is_free h a ≡ true → IsIn b (waits h) → Ahead b a → a.stamp < b.stamp → ⊥
free_ahead h a b e i c lt = subst (λ l. IsIn b l) (none_nil (ahead h a) (and_parts (none (blockers h a)) (none (ahead h a)) e).1) (ahead_in h a b i c lt)

pub free_parts : (h : History) (a : Asked) → is_free h a ≡ true → (none (blockers h a) ≡ true) × ((b : Asked) → IsIn b (waits h) → Ahead b a → a.stamp < b.stamp → ⊥)
free_parts h a e = ((and_parts (none (blockers h a)) (none (ahead h a)) e).0, (λ b i c lt. free_ahead h a b e i c lt))

pub parts_free : (h : History) (a : Asked) → none (blockers h a) ≡ true → ((b : Asked) → IsIn b (waits h) → Ahead b a → a.stamp < b.stamp → ⊥) → is_free h a ≡ true
parts_free h a e f = and_true (none (blockers h a)) (none (ahead h a)) e (go (none (ahead h a)) refl)
  where
    go : (t : Bool) → none (ahead h a) ≡ t → t ≡ true
    go true n = refl
    go false n = let s = none_some (ahead h a) n in let o = in_ahead h a s.0 s.1 in absurd (f s.0 o.0 o.1 o.2)

not_free : (h : History) (a : Asked) → is_free h a ≡ false → ((g : Grant) × IsIn g (grants h) × IsUnended h g.who × Bars g a) ⊎ ((b : Asked) × IsIn b (waits h) × Ahead b a × (a.stamp < b.stamp))
not_free h a e = go (none (blockers h a)) refl (none (ahead h a)) refl e
  where
    go : (x : Bool) → none (blockers h a) ≡ x → (y : Bool) → none (ahead h a) ≡ y → (x && y) ≡ false → ((g : Grant) × IsIn g (grants h) × IsUnended h g.who × Bars g a) ⊎ ((b : Asked) × IsIn b (waits h) × Ahead b a × (a.stamp < b.stamp))
    go false p y q n = let s = none_some (blockers h a) p in let o = in_blockers h a s.0 s.1 in inl (s.0, o.0, o.1, o.2)
    go true p false q n = let s = none_some (ahead h a) q in let o = in_ahead h a s.0 s.1 in inr (s.0, o.0, o.1, o.2)
    go true p true q n = absurd (true≢false n)

abbrev unfree : History → Asked → Asked → Bool
unfree h a b = key_eq b.key a.key && (leb a.stamp b.stamp && not (is_free h b))

pub front_in : (h : History) (a : Asked) → IsIn a (front h) → IsIn a (waits h)
front_in h a i = (filter_in (λ x. none (filter (unfree h x) (waits h))) a (waits h) i).0

pub front_free : (h : History) (a b : Asked) → IsIn a (front h) → IsIn b (waits h) → b.key ≡ a.key → a.stamp ≤ b.stamp → is_free h b ≡ true
front_free h a b i j k le = go (is_free h b) refl
  where
    go : (t : Bool) → is_free h b ≡ t → t ≡ true
    go true e = refl
    go false e =
        absurd (subst (λ l. IsIn b l) (none_nil (filter (unfree h a) (waits h)) (filter_in (λ x. none (filter (unfree h x) (waits h))) a (waits h) i).1)
        (in_filter (unfree h a) b (waits h) j (and_true (key_eq b.key a.key) (leb a.stamp b.stamp && not (is_free h b)) ((key_decides b.key a.key).1 k) (and_true (leb a.stamp b.stamp) (not (is_free h b)) (⊎_elim (λ x. x.0) (λ x. absurd (omega (arith, le, x.1))) (le_tells a.stamp b.stamp)) (ap not e)))))

pub front_or : (h : History) (a : Asked) → IsIn a (waits h) → IsIn a (front h) ⊎ ((b : Asked) × IsIn b (waits h) × (b.key ≡ a.key) × (a.stamp ≤ b.stamp) × (is_free h b ≡ false))
front_or h a i = go (none (filter (unfree h a) (waits h))) refl
  where
    flip : (t : Bool) → not t ≡ true → t ≡ false
    flip true e = absurd (true≢false (sym e))
    flip false e = refl

    go : (t : Bool) → none (filter (unfree h a) (waits h)) ≡ t → IsIn a (front h) ⊎ ((b : Asked) × IsIn b (waits h) × (b.key ≡ a.key) × (a.stamp ≤ b.stamp) × (is_free h b ≡ false))
    go true e = inl (in_filter (λ x. none (filter (unfree h x) (waits h))) a (waits h) i e)
    go false e =
        let b = none_some (filter (unfree h a) (waits h)) e in
        let f = filter_in (unfree h a) b.0 (waits h) b.1 in
        let p = and_parts (key_eq b.0.key a.key) (leb a.stamp b.0.stamp && not (is_free h b.0)) f.1 in
        let q = and_parts (leb a.stamp b.0.stamp) (not (is_free h b.0)) p.1 in
        inr (b.0, f.0, (key_decides b.0.key a.key).0 p.0, ⊎_elim (λ x. x.1) (λ x. absurd (true≢false (sym q.0 ∙ x.0))) (le_tells a.stamp b.0.stamp), flip (is_free h b.0) q.1)

-- accesses to one key that do not conflict both read
both_read : (b a : Asked) → b.key ≡ a.key → b.who ≢ a.who → Ahead b a ⊎ ((b.mode ≡ Read) × (a.mode ≡ Read))
both_read b a k n = go b.mode refl a.mode refl
  where
    go : (x : Mode) → b.mode ≡ x → (y : Mode) → a.mode ≡ y → Ahead b a ⊎ ((b.mode ≡ Read) × (a.mode ≡ Read))
    go Read e Read f = inr (e, f)
    go Read e Update f = inl (k, n, (λ r. absurd (cc (f, r.1))))
    go Read e Put f = inl (k, n, (λ r. absurd (cc (f, r.1))))
    go Update e y f = inl (k, n, (λ r. absurd (cc (e, r.0))))
    go Put e y f = inl (k, n, (λ r. absurd (cc (e, r.0))))

-- an owner that conflicts with a waiter has a greater stamp; and each waiter is held up or stands behind
pub record Queued (h : History) : Type 0 where
  pub senior : (a : Asked) (g : Grant) → IsIn a (waits h) → IsIn g (grants h) → IsUnended h g.who → Bars g a → a.stamp < g.stamp
  pub blocked : (a : Asked) → IsIn a (waits h) → IsHeldUp h a ⊎ IsBehind h a

module _ (loaded : Rows) where
  apart_stamps : (h : History) (a b : Asked) → Known loaded h → IsIn a (asks h) → IsIn b (asks h) → IsUnended h a.who → IsUnended h b.who → a.who ≢ b.who → (a.stamp < b.stamp) ⊎ (b.stamp < a.stamp)
  apart_stamps h a b k i j u v n =
      ⊎_elim
      (λ x. inl x.1)
      (λ x. ⊎_elim (λ y. inr y.1) (λ y. absurd (n (same_stamp loaded h a b k i j u v (omega (arith, x.1, y.1))))) (lt_tells b.stamp a.stamp))
      (lt_tells a.stamp b.stamp)

  -- h with an end that has woken no one yet, and what its wakes bring
  module _ (h : History) (k : Known loaded h) (t : Traced h) (senior : (a : Asked) (g : Grant) → IsIn a (waits h) → IsIn g (grants h) → IsUnended h g.who → Bars g a → a.stamp < g.stamp) where
    differ : (a b : Asked) → IsIn a (waits h) → IsIn b (waits h) → a.who ≢ b.who → (a.stamp < b.stamp) ⊎ (b.stamp < a.stamp)
    differ a b i j n = apart_stamps h a b k (k.asked a i) (k.asked b j) (k.unended a i) (k.unended b j) n

    front_self : (a : Asked) → IsIn a (front h) → is_free h a ≡ true
    front_self a i = front_free h a a i (front_in h a i) refl (omega arith)

    new_grant : (g : Grant) → IsIn g (map (grant_of_wake h) (wakes loaded h)) → (a : Asked) × IsIn a (front h) × (g ≡ grant_of (wake_of loaded h a) a)
    new_grant g i = wake_grants (wake_of loaded h) (λ a. refl) (λ a. refl) by_falling_stamp loaded h k (front h) g (front_in h) i

    pub new_owners : Owners loaded h (map (grant_of_wake h) (wakes loaded h))
    new_owners = record {
      apart = λ a b i j c.
          let x = new_grant a i in
          let y = new_grant b j in
          let d : Ahead x.0 y.0 = subst (λ g. Conflict g.who g.key g.mode y.0.who y.0.key y.0.mode) x.2 (subst (λ g. Conflict a.who a.key a.mode g.who g.key g.mode) y.2 c) in
          ⊎_elim
          (λ lt. free_ahead h x.0 y.0 (front_self x.0 x.1) (front_in h y.0 y.1) (conflict_sym x.0.who x.0.key x.0.mode y.0.who y.0.key y.0.mode d) lt)
          (λ lt. free_ahead h y.0 x.0 (front_self y.0 y.1) (front_in h x.0 x.1) d lt)
          (differ x.0 y.0 (front_in h x.0 x.1) (front_in h y.0 y.1) d.1);
      free = λ a b i j u c. let x = new_grant a i in free_owner h x.0 b (front_self x.0 x.1) j u (subst (λ g. Conflict b.who b.key b.mode g.who g.key g.mode) x.2 c);
      current = λ g i r.
          let x = new_grant g i in
          subst (λ z. latest loaded h z.key ≡ record { number = z.version; row = z.row }) (sym x.2) (seen_current loaded h x.0.mode x.0.key (λ e. r (ap (λ z. z.mode) x.2 ∙ e)));
    }

    pub new_senior : (a : Asked) (g : Grant) → IsIn a (waits h) → IsIn g (map (grant_of_wake h) (wakes loaded h) ++ grants h) → IsUnended h g.who → Bars g a → a.stamp < g.stamp
    new_senior a g i j u c =
        ⊎_elim
        (λ n.
        let x = new_grant g n in
        let d : Ahead x.0 a = subst (λ z. Conflict z.who z.key z.mode a.who a.key a.mode) x.2 c in
        ⊎_elim
        (λ (lt : x.0.stamp < a.stamp). absurd (free_ahead h x.0 a (front_self x.0 x.1) i (conflict_sym x.0.who x.0.key x.0.mode a.who a.key a.mode d) lt))
        (λ (lt : a.stamp < x.0.stamp). omega (arith, lt, ap (λ z. z.stamp) x.2))
        (differ x.0 a (front_in h x.0 x.1) i d.1))
        (λ old. senior a g i old u c)
        (in_cases g (map (grant_of_wake h) (wakes loaded h)) (grants h) j)

    abbrev Held : Asked → Type 0
    Held a = (g : Grant) × IsIn g (map (grant_of_wake h) (wakes loaded h) ++ grants h) × IsUnended h g.who × Bars g a × (a.stamp < g.stamp)

    abbrev Behind : Asked → Type 0
    Behind a = (b : Asked) × IsIn b (waits h) × (is_woken (wakes loaded h) b ≡ false) × Ahead b a × (a.stamp < b.stamp)

    -- a conflicting waiter of greater stamp is woken, or still there
    settle : (a b : Asked) → IsIn b (waits h) → Ahead b a → a.stamp < b.stamp → Held a ⊎ Behind a
    settle a b j c lt = go (is_woken (wakes loaded h) b) refl
      where
        go : (w : Bool) → is_woken (wakes loaded h) b ≡ w → Held a ⊎ Behind a
        go false e = inr (b, j, e, c, lt)
        go true e =
            inl (
              grant_of (wake_of loaded h b) b,
              in_left (grant_of (wake_of loaded h b) b) (map (grant_of_wake h) (wakes loaded h)) (grants h)
                  (grant_wakes (wake_of loaded h) (λ x. refl) (λ x. refl) by_falling_stamp loaded h k (front h) b (front_in h) (woken_in (wake_of loaded h) (λ x. refl) (λ x. refl) by_falling_stamp loaded h k (front h) b (front_in h) j e)),
              k.unended b j,
              c,
              lt,
            )

    hold : (a : Asked) (g : Grant) → IsIn a (waits h) → IsIn g (grants h) → IsUnended h g.who → Bars g a → Held a
    hold a g i j u c = (g, in_right g (map (grant_of_wake h) (wakes loaded h)) (grants h) j, u, c, senior a g i j u c)

    -- behind b, which is not free: of smaller stamp
    behind_unfree : (a b : Asked) → IsIn a (waits h) → IsIn b (waits h) → b.key ≡ a.key → a.stamp < b.stamp → is_free h b ≡ false → Held a ⊎ Behind a
    behind_unfree a b i j key lt e =
        ⊎_elim
        (λ c. settle a b j c lt)
        (λ r. ⊎_elim
        (λ (o : (g : Grant) × IsIn g (grants h) × IsUnended h g.who × Bars g b).
        inl (hold a o.0 i o.1 o.2 (write_conflict o.0.who o.0.key o.0.mode a.who a.key a.mode (o.3.0 ∙ key) (λ same. t.not_both o.0 a o.1 i same (o.3.0 ∙ key)) (λ w. o.3.2 (w, r.0)))))
        (λ (z : (z : Asked) × IsIn z (waits h) × Ahead z b × (b.stamp < z.stamp)).
        settle a z.0 z.1 (write_conflict z.0.who z.0.key z.0.mode a.who a.key a.mode (z.2.0 ∙ key) (λ same. absurd (omega (arith, lt, z.3, k.stamp z.0 a (k.asked z.0 z.1) (k.asked a i) same))) (λ w. z.2.2 (w, r.0))) (omega (arith, lt, z.3)))
        (not_free h b e))
        (both_read b a key (λ same. absurd (omega (arith, lt, k.stamp b a (k.asked b j) (k.asked a i) same))))

    pub new_blocked : (a : Asked) → IsIn a (waits h) → is_woken (wakes loaded h) a ≡ false → Held a ⊎ Behind a
    new_blocked a i n =
        ⊎_elim
        (λ f. absurd (true≢false (sym (in_woken (wake_of loaded h) (λ x. refl) (λ x. refl) by_falling_stamp loaded h k (front h) a f) ∙ n)))
        (λ (b : (b : Asked) × IsIn b (waits h) × (b.key ≡ a.key) × (a.stamp ≤ b.stamp) × (is_free h b ≡ false)).
        ⊎_elim
        (λ (lt : (ltb a.stamp b.0.stamp ≡ true) × (a.stamp < b.0.stamp)). behind_unfree a b.0 i b.1 b.2 lt.1 b.4)
        (λ ge.
        let same : b.0.who ≡ a.who = same_stamp loaded h b.0 a k (k.asked b.0 b.1) (k.asked a i) (k.unended b.0 b.1) (k.unended a i) (omega (arith, b.3, ge.1)) in
        ⊎_elim (λ o. inl (hold a o.0 i o.1 o.2 o.3)) (λ z. settle a z.0 z.1 z.2 z.3) (not_free h a (subst (λ x. is_free h x ≡ false) (k.alone b.0 a b.1 i same) b.4)))
        (lt_tells a.stamp b.0.stamp))
        (front_or h a i)

  -- the history with this end is sound, before it wakes anyone
  nobody : (h : History) → WakesWaiters h []
  nobody h = record { waited = λ w i. absurd i; once = tt }

  -- a waiting access still waits after an end that woke no one
  waits_on : (h : History) (a : Asked) → IsIn a (waits h) → IsIn a (filter (λ x. not (is_woken [] x)) (waits h))
  waits_on h a i = in_filter (λ x. not (is_woken [] x)) a (waits h) i refl

  left : (h : History) (woken : List Wake) (a : Asked) → IsIn a (filter (λ x. not (is_woken woken x)) (waits h)) → IsIn a (waits h) × (is_woken woken a ≡ false)
  left h woken a i = let f = filter_in (λ x. not (is_woken woken x)) a (waits h) i in (f.0, flip (is_woken woken a) f.1)
    where
      flip : (t : Bool) → not t ≡ true → t ≡ false
      flip true e = absurd (true≢false (sym e))
      flip false e = refl

  still : (h : History) (woken : List Wake) (a : Asked) → IsIn a (waits h) → is_woken woken a ≡ false → IsIn a (filter (λ x. not (is_woken woken x)) (waits h))
  still h woken a i e = in_filter (λ x. not (is_woken woken x)) a (waits h) i (ap not e)

  queued_commit : (h : History) (who : Attempt) (number : Number) → MayCommit h who number → Sound loaded h → Known loaded h → Traced h → Locked loaded h → Queued h → Locked loaded (Commit who number (wakes loaded (Commit who number [] ∷ h)) ∷ h) × Queued (Commit who number (wakes loaded (Commit who number [] ∷ h)) ∷ h)
  queued_commit h who number may s k t l q = (
    locked_add loaded h1 (Commit who number woken ∷ h) (map (grant_of_wake h) woken) (λ g i. in_cases g (map (grant_of_wake h) woken) (grants h) i) (λ x u. u) (λ y. refl) (new_owners h1 k1 t1 senior1) (locked_commit loaded h who number s may.unended l),
    record {
      senior = λ a g i j u c. new_senior h1 k1 t1 senior1 a g (waits_on h a (left h woken a i).0) j u c;
      blocked = λ a i.
          let w = left h woken a i in
          ⊎_elim
          (λ x. inl x)
          (λ (b : (b : Asked) × IsIn b (waits h1) × (is_woken woken b ≡ false) × Ahead b a × (a.stamp < b.stamp)). inr (b.0, still h woken b.0 (left h [] b.0 b.1).0 b.2, b.3, b.4))
          (new_blocked h1 k1 t1 senior1 a (waits_on h a w.0) w.1);
    },
  )
    where
      h1 : History
      h1 = Commit who number [] ∷ h

      woken : List Wake
      woken = wakes loaded h1

      k1 : Known loaded h1
      k1 = known_more loaded h (Commit who number []) may s k

      t1 : Traced h1
      t1 = traced_more loaded h (Commit who number []) may (nobody h) k t

      senior1 : (a : Asked) (g : Grant) → IsIn a (waits h1) → IsIn g (grants h1) → IsUnended h1 g.who → Bars g a → a.stamp < g.stamp
      senior1 a g i j u c = q.senior a g (left h [] a i).0 j (λ e. u (inr e)) c

  queued_abort : (h : History) (who : Attempt) → MayAbort h who → Sound loaded h → Known loaded h → Traced h → Locked loaded h → Queued h → Locked loaded (Abort who (wakes loaded (Abort who [] ∷ h)) ∷ h) × Queued (Abort who (wakes loaded (Abort who [] ∷ h)) ∷ h)
  queued_abort h who may s k t l q = (
    locked_add loaded h1 (Abort who woken ∷ h) (map (grant_of_wake h) woken) (λ g i. in_cases g (map (grant_of_wake h) woken) (grants h) i) (λ x u. u) (λ y. refl) (new_owners h1 k1 t1 senior1) (locked_abort loaded h who l),
    record {
      senior = λ a g i j u c. new_senior h1 k1 t1 senior1 a g (waits_on h a (left h woken a i).0) j u c;
      blocked = λ a i.
          let w = left h woken a i in
          ⊎_elim
          (λ x. inl x)
          (λ (b : (b : Asked) × IsIn b (waits h1) × (is_woken woken b ≡ false) × Ahead b a × (a.stamp < b.stamp)). inr (b.0, still h woken b.0 (left h [] b.0 b.1).0 b.2, b.3, b.4))
          (new_blocked h1 k1 t1 senior1 a (waits_on h a w.0) w.1);
    },
  )
    where
      h1 : History
      h1 = Abort who [] ∷ h

      woken : List Wake
      woken = wakes loaded h1

      k1 : Known loaded h1
      k1 = known_more loaded h (Abort who []) may s k

      t1 : Traced h1
      t1 = traced_more loaded h (Abort who []) may (nobody h) k t

      senior1 : (a : Asked) (g : Grant) → IsIn a (waits h1) → IsIn g (grants h1) → IsUnended h1 g.who → Bars g a → a.stamp < g.stamp
      senior1 a g i j u c = q.senior a g (left h [] a i).0 j (λ e. u (inr e)) c

  elders_none : (h : History) (a : Asked) (g : Grant) → elders h a ≡ [] → IsIn g (grants h) → IsUnended h g.who → Bars g a → g.stamp < a.stamp → ⊥
  elders_none h a g e i u c lt = subst (λ l. IsIn g l) e (in_filter (λ x. ltb x.stamp a.stamp) g (blockers h a) (blocker_in h a g i u c) (⊎_elim (λ x. x.0) (λ x. absurd (omega (arith, lt, x.1))) (lt_tells g.stamp a.stamp)))

  module _ (h : History) (who : Attempt) (stamp : ℕ) (key : Key) (mode : Mode) (may : MayAsk loaded h who stamp key) (s : Sound loaded h) (k : Known loaded h) (t : Traced h) (l : Locked loaded h) (q : Queued h) where
    abbrev mine : Asked
    mine = record { who = who; stamp = stamp; key = key; mode = mode }

    abbrev v : Version
    v = seen mode (latest loaded h key)

    -- the stamps of others differ from that of the ask
    not_mine : (a : Asked) → IsIn a (asks h) → IsUnended h a.who → a.who ≢ who → (a.stamp < stamp) ⊎ (stamp < a.stamp)
    not_mine a i u n = apart_stamps (Ask who stamp key mode Waits ∷ h) a mine (known_more loaded h (Ask who stamp key mode Waits) may s k) (inr i) (inl refl) u may.unended n

    asked_queue : (es : List Grant) (b : Bool) → elders h mine ≡ es → is_free h mine ≡ b → Locked loaded (Ask who stamp key mode (younger_or key es b v) ∷ h) × Queued (Ask who stamp key mode (younger_or key es b v) ∷ h)
    asked_queue (g ∷ gs) b e f = (record { apart = l.apart; current = l.current }, record { senior = q.senior; blocked = q.blocked })
    asked_queue [] true e f = (
      locked_grant loaded h who stamp key mode 0 (λ g i u c. free_owner h mine g f i u c) l,
      record {
        senior = λ a g i j u c.
            ⊎_elim
            (λ (same : g ≡ record { who = who; stamp = stamp; key = key; mode = mode; row = v.row; version = v.number }).
            let d : Ahead mine a = subst (λ z. Conflict z.who z.key z.mode a.who a.key a.mode) same c in
            ⊎_elim
            (λ lt. omega (arith, lt, ap (λ z. z.stamp) same))
            (λ gt. absurd (free_ahead h mine a f i (conflict_sym who key mode a.who a.key a.mode d) gt))
            (not_mine a (k.asked a i) (k.unended a i) (λ x. d.1 (sym x))))
            (λ old. q.senior a g i old u c)
            j;
        blocked = λ a i. ⊎_elim (λ o. inl (o.0, inr o.1, o.2, o.3, o.4)) (λ b. inr b) (q.blocked a i);
      },
    )
    asked_queue [] false e f = (
      record { apart = l.apart; current = l.current },
      record {
        senior = λ a g i j u c. ⊎_elim (λ (same : a ≡ mine). subst (λ z. z.stamp < g.stamp) (sym same) (elder g j u (subst (λ z. Bars g z) same c))) (λ old. q.senior a g old j u c) i;
        blocked = λ a i.
            ⊎_elim
            (λ (same : a ≡ mine). subst (λ z. IsHeldUp (Ask who stamp key mode Waits ∷ h) z ⊎ IsBehind (Ask who stamp key mode Waits ∷ h) z) (sym same)
            (⊎_elim (λ o. inl (o.0, o.1, o.2, o.3, elder o.0 o.1 o.2 o.3)) (λ b. inr (b.0, inr b.1, b.2, b.3)) (not_free h mine f)))
            (λ old. ⊎_elim (λ o. inl o) (λ b. inr (b.0, inr b.1, b.2, b.3)) (q.blocked a old))
            i;
      },
    )
      where
        elder : (g : Grant) → IsIn g (grants h) → IsUnended h g.who → Bars g mine → stamp < g.stamp
        elder g i u c =
            let x = t.asked g i in
            ⊎_elim
            (λ (lt : x.0.stamp < stamp). absurd (elders_none h mine g e i u c (omega (arith, lt, x.5))))
            (λ (gt : stamp < x.0.stamp). omega (arith, gt, x.5))
            (not_mine x.0 x.1 (subst (λ z. IsUnended h z) (sym x.2) u) (λ y. c.1 (sym x.2 ∙ y)))

  -- the wakes are of waiting accesses
  commit_wakes : (h : History) (who : Attempt) (number : Number) → Obeys loaded (wait_die loaded) h → WakesWaiters h (wakes loaded (Commit who number [] ∷ h))
  commit_wakes h who number o =
      let h1 : History = Commit who number [] ∷ h in
      wakes_waiters (wake_of loaded h1) (λ a. refl) (λ a. refl) by_falling_stamp loaded h (known loaded (wait_die loaded) h o) (front h1) (λ a i. (left h [] a (front_in h1 a i)).0)
      (distinct_filter (λ a. none (filter (unfree h1 a) (waits h1))) (waits h1) (distinct_filter (λ a. not (is_woken [] a)) (waits h) (distinct_waits loaded (wait_die loaded) h o)))

  abort_wakes : (h : History) (who : Attempt) → Obeys loaded (wait_die loaded) h → WakesWaiters h (wakes loaded (Abort who [] ∷ h))
  abort_wakes h who o =
      let h1 : History = Abort who [] ∷ h in
      wakes_waiters (wake_of loaded h1) (λ a. refl) (λ a. refl) by_falling_stamp loaded h (known loaded (wait_die loaded) h o) (front h1) (λ a i. (left h [] a (front_in h1 a i)).0)
      (distinct_filter (λ a. none (filter (unfree h1 a) (waits h1))) (waits h1) (distinct_filter (λ a. not (is_woken [] a)) (waits h) (distinct_waits loaded (wait_die loaded) h o)))

  -- each wake is of an access that waited, and none is woken twice
  pub wait_die_wakes : (h : History) → Obeys loaded (wait_die loaded) h → KeepsWakes h
  wait_die_wakes h o = keeps_wakes loaded (wait_die loaded) (λ g who number p may. commit_wakes g who number p) (λ g who p may. abort_wakes g who p) h o

  pub queued : (h : History) → Obeys loaded (wait_die loaded) h → Locked loaded h × Queued h
  queued [] o = (locked_start loaded, record { senior = λ a g i j u c. absurd i; blocked = λ a i. absurd i })
  queued (Ask who stamp key mode answer ∷ h) o =
      let p = queued h o.2 in
      subst (λ a. Locked loaded (Ask who stamp key mode a ∷ h) × Queued (Ask who stamp key mode a ∷ h)) (sym o.1)
      (asked_queue h who stamp key mode o.0 (sound loaded (wait_die loaded) h o.2) (known loaded (wait_die loaded) h o.2) (traced loaded (wait_die loaded) h o.2 (wait_die_wakes h o.2)) p.0 p.1
      (elders h (record { who = who; stamp = stamp; key = key; mode = mode })) (is_free h (record { who = who; stamp = stamp; key = key; mode = mode })) refl refl)
  queued (Prepare who bound writes appends vote ∷ h) o =
      let p = queued h o.2 in (record { apart = p.0.apart; current = p.0.current }, record { senior = p.1.senior; blocked = p.1.blocked })
  queued (Commit who number woken ∷ h) o =
      let p = queued h o.2 in
      subst (λ w. Locked loaded (Commit who number w ∷ h) × Queued (Commit who number w ∷ h)) (sym o.1)
      (queued_commit h who number o.0 (sound loaded (wait_die loaded) h o.2) (known loaded (wait_die loaded) h o.2) (traced loaded (wait_die loaded) h o.2 (wait_die_wakes h o.2)) p.0 p.1)
  queued (Abort who woken ∷ h) o =
      let p = queued h o.2 in
      subst (λ w. Locked loaded (Abort who w ∷ h) × Queued (Abort who w ∷ h)) (sym o.1)
      (queued_abort h who o.0 (sound loaded (wait_die loaded) h o.2) (known loaded (wait_die loaded) h o.2) (traced loaded (wait_die loaded) h o.2 (wait_die_wakes h o.2)) p.0 p.1)

  fresh : VotesFresh loaded (wait_die loaded)
  fresh h who bound writes appends lo hi o ws may law e =
      subst
      (λ v. OfVote v)
      (sym e)
      (lock_fresh loaded h (sound loaded (wait_die loaded) h o) (known loaded (wait_die loaded) h o) (traced loaded (wait_die loaded) h o ws) (queued h o).0 who bound writes appends may)
    where
      OfVote : Vote → Type 0
      OfVote (Yes a b) = Fresh loaded h who writes a b
      OfVote (No cause) = ⊤

  -- the window law
  pub wait_die_windows : (h : History) → Obeys loaded (wait_die loaded) h → KeepsWindows loaded h
  wait_die_windows h o = windows loaded (wait_die loaded) fresh h o (wait_die_wakes h o)

  -- the waits law
  pub wait_die_waits : (h : History) → Obeys loaded (wait_die loaded) h → WaitsForYounger h
  wait_die_waits h o a i = ⊎_elim (λ g. inl (g.0, g.1, g.2, g.3, g.4)) (λ b. inr (b.0, b.1, b.2.0, b.3)) ((queued h o).1.blocked a i)

  -- a waiter that conflicts with no owner stands behind a conflicting waiter of greater stamp
  pub wait_die_behind : (h : History) → Obeys loaded (wait_die loaded) h → StandsBehind h
  wait_die_behind h o a i free = ⊎_elim (λ g. absurd (free g.0 g.1 g.2 g.3)) (λ b. b) ((queued h o).1.blocked a i)

  -- the stamps of two waiters differ
  pub stamps_differ : (h : History) (a b : Asked) → Known loaded h → IsIn a (waits h) → IsIn b (waits h) → a ≢ b → a.stamp ≢ b.stamp
  stamps_differ h a b k i j n e = n (k.alone a b i j (same_stamp loaded h a b k (k.asked a i) (k.asked b j) (k.unended a i) (k.unended b j) e))

  pub in_order : (h : History) (ws : List Asked) → Known loaded h → Distinct ws → ((a : Asked) → IsIn a ws → IsIn a (waits h)) → Sorted by_falling_stamp (sort by_falling_stamp ws)
  in_order h ws k d less = sorted_sort by_falling_stamp falling_trans ws d (λ a b i j n e. falling_total a b (λ _. stamps_differ h a b k (less a i) (less b j) n) e)

  pub falls_sorted : (key : Key) (as' : List Asked) → ((a : Asked) → IsIn a as' → a.key ≡ key) → Sorted by_falling_stamp as' → Falls as'
  falls_sorted key [] same s = tt
  falls_sorted key (a ∷ as') same s = ((λ b i. falling_same a b (same a (inl refl) ∙ sym (same b (inr i))) (s.0 b i)), falls_sorted key as' (λ b i. same b (inr i)) s.1)

  -- the waiters of a key stand in strictly falling stamp order
  pub wait_die_falls : (h : History) (key : Key) → Obeys loaded (wait_die loaded) h → Falls (queue h key)
  wait_die_falls h key o =
      let k = known loaded (wait_die loaded) h o in
      let ws : List Asked = filter (λ a. key_eq a.key key) (waits h) in
      falls_sorted key (sort by_falling_stamp ws)
      (λ a i. (key_decides a.key key).0 (filter_in (λ x. key_eq x.key key) a (waits h) (sort_in by_falling_stamp a ws i)).1)
      (in_order h ws k (distinct_filter (λ a. key_eq a.key key) (waits h) (distinct_waits loaded (wait_die loaded) h o)) (λ a i. (filter_in (λ x. key_eq x.key key) a (waits h) i).0))

  -- whoever is woken was held up by the attempt that ended
  pub woken_by : (h h1 : History) (who : Attempt) (a : Asked) → ((x : Asked) → IsIn x (waits h1) → IsIn x (waits h)) → ((x : Asked) → IsIn x (waits h) → IsIn x (waits h1)) → ((g : Grant) → IsIn g (grants h) → IsIn g (grants h1)) → ((x : Attempt) → IsUnended h x → (x ≡ who) ⊎ IsUnended h1 x) → Queued h → IsIn a (front h1) → (g : Grant) × IsIn g (grants h) × (g.who ≡ who) × Bars g a
  woken_by h h1 who a less more grow ends q i =
      let free = front_free h1 a a i (front_in h1 a i) refl (omega arith) in
      ⊎_elim
      (λ o. ⊎_elim (λ same. (o.0, o.1, same, o.3)) (λ u. absurd (free_owner h1 a o.0 free (grow o.0 o.1) u o.3)) (ends o.0.who o.2))
      (λ b. absurd (free_ahead h1 a b.0 free (more b.0 b.1) b.2 b.3))
      (q.blocked a (less a (front_in h1 a i)))

  right_wake : (h h1 : History) (who : Attempt) (w : Wake) → Known loaded h1 → ((x : Asked) → IsIn x (waits h1) → IsIn x (waits h)) → ((x : Asked) → IsIn x (waits h) → IsIn x (waits h1)) → ((g : Grant) → IsIn g (grants h) → IsIn g (grants h1)) → ((x : Attempt) → IsUnended h x → (x ≡ who) ⊎ IsUnended h1 x) → Queued h → IsIn w (wakes loaded h1) → IsRightWake loaded h h1 who (wakes loaded h1) w
  right_wake h h1 who w k less more grow ends q i =
      let b = in_map_from (wake_of loaded h1) w (sort by_falling_stamp (front h1)) i in
      let j = sort_in by_falling_stamp b.0 (front h1) b.1 in
      let free = front_free h1 b.0 b.0 j (front_in h1 b.0 j) refl (omega arith) in
      record {
        access = b.0;
        waited = less b.0 (front_in h1 b.0 j);
        granted = b.2;
        held = woken_by h h1 who b.0 less more grow ends q j;
        free = λ g x u c. free_owner h1 b.0 g free x u c;
        first = λ a x key lt. (
          (λ c. free_ahead h1 b.0 a free (more a x) c lt),
          in_woken (wake_of loaded h1) (λ z. refl) (λ z. refl) by_falling_stamp loaded h1 k (front h1) a (in_front h1 a b.0 (more a x) key lt j),
        );
      }
    where
      -- before one of the front stands only the front
      in_front : (h : History) (a b : Asked) → IsIn a (waits h) → a.key ≡ b.key → b.stamp < a.stamp → IsIn b (front h) → IsIn a (front h)
      in_front h a b i key lt j =
          ⊎_elim
          (λ f. f)
          (λ x. absurd (true≢false (sym (front_free h b x.0 j x.1 (x.2 ∙ key) (omega (arith, lt, x.3))) ∙ x.4)))
          (front_or h a i)

  unended_more : (h : History) (who x : Attempt) → IsUnended h x → (x ≡ who) ⊎ (((x ≡ who) ⊎ IsIn x (ended h)) → ⊥)
  unended_more h who x u = ⊎_elim (λ e. inl e.1) (λ e. inr (λ y. ⊎_elim e.1 u y)) (attempt_tells x who)

  -- each wake is granted as the rule says
  pub wait_die_right : (h : History) (c : Call) → Obeys loaded (wait_die loaded) (c ∷ h) → WakesRight loaded h c
  wait_die_right h (Ask who stamp key mode answer) o = tt
  wait_die_right h (Prepare who bound writes appends vote) o = tt
  wait_die_right h (Commit who number woken) o =
      subst (λ ws. (w : Wake) → IsIn w ws → IsRightWake loaded h (Commit who number [] ∷ h) who ws w) (sym o.1)
      (λ w i. right_wake h (Commit who number [] ∷ h) who w (known_more loaded h (Commit who number []) o.0 (sound loaded (wait_die loaded) h o.2) (known loaded (wait_die loaded) h o.2)) (λ x j. (left h [] x j).0) (waits_on h) (λ g j. j) (unended_more h who) (queued h o.2).1 i)
  wait_die_right h (Abort who woken) o =
      subst (λ ws. (w : Wake) → IsIn w ws → IsRightWake loaded h (Abort who [] ∷ h) who ws w) (sym o.1)
      (λ w i. right_wake h (Abort who [] ∷ h) who w (known_more loaded h (Abort who []) o.0 (sound loaded (wait_die loaded) h o.2) (known loaded (wait_die loaded) h o.2)) (λ x j. (left h [] x j).0) (waits_on h) (λ g j. j) (unended_more h who) (queued h o.2).1 i)

  -- the wakes of an end are those of the front, by key and then by falling stamp
  in_turn : (h h1 : History) → Obeys loaded (wait_die loaded) h → Known loaded h → ((x : Asked) → IsIn x (waits h1) → IsIn x (waits h)) → Distinct (waits h1) → InTurn loaded h1 (wakes loaded h1)
  in_turn h h1 o k less d = (
    sort by_falling_stamp (front h1),
    refl,
    in_order h (front h1) k (distinct_filter (λ a. none (filter (unfree h1 a) (waits h1))) (waits h1) d) (λ a i. less a (front_in h1 a i)),
  )

  pub wait_die_turns : (h : History) (c : Call) → Obeys loaded (wait_die loaded) (c ∷ h) → WakesInTurn loaded h c
  wait_die_turns h (Ask who stamp key mode answer) o = tt
  wait_die_turns h (Prepare who bound writes appends vote) o = tt
  wait_die_turns h (Commit who number woken) o =
      subst (λ ws. InTurn loaded (Commit who number [] ∷ h) ws) (sym o.1)
      (in_turn h (Commit who number [] ∷ h) o.2 (known loaded (wait_die loaded) h o.2) (λ x j. (left h [] x j).0) (distinct_filter (λ a. not (is_woken [] a)) (waits h) (distinct_waits loaded (wait_die loaded) h o.2)))
  wait_die_turns h (Abort who woken) o =
      subst (λ ws. InTurn loaded (Abort who [] ∷ h) ws) (sym o.1)
      (in_turn h (Abort who [] ∷ h) o.2 (known loaded (wait_die loaded) h o.2) (λ x j. (left h [] x j).0) (distinct_filter (λ a. not (is_woken [] a)) (waits h) (distinct_waits loaded (wait_die loaded) h o.2)))

  -- nothing stands before the first waiter, so an owner holds it up
  pub wait_die_first : (h : History) → Obeys loaded (wait_die loaded) h → FirstIsHeldUp h
  wait_die_first h o key a rest is =
      let mine : IsIn a (queue h key) = subst (λ l. IsIn a l) (sym is) (inl refl) in
      let here = filter_in (λ x. key_eq x.key key) a (waits h) (sort_in by_falling_stamp a (filter (λ x. key_eq x.key key) (waits h)) mine) in
      let same : a.key ≡ key = (key_decides a.key key).0 here.1 in
      let falls : Falls (a ∷ rest) = subst Falls is (wait_die_falls h key o) in
      ⊎_elim
      (λ g. g)
      (λ (b : IsBehind h a).
      let there : IsIn b.0 (a ∷ rest) = subst (λ l. IsIn b.0 l) is (in_sort by_falling_stamp b.0 (filter (λ x. key_eq x.key key) (waits h)) (in_filter (λ x. key_eq x.key key) b.0 (waits h) b.1 ((key_decides b.0.key key).1 (b.2.0 ∙ same)))) in
      absurd (⊎_elim (λ e. omega (arith, b.3, ap (λ z. z.stamp) e)) (λ i. omega (arith, b.3, falls.0 b.0 i)) there))
      ((queued h o).1.blocked a here.0)
