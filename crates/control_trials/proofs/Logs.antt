-- What a log tells of a history that it follows, and how it follows one more call.
use Rattle.std.proofs.Common.{◌≡◌, ◌≢◌, ◌⊎◌, ℕ, ◌+◌, ◌^◌, ◌<◌, ◌≤◌, List, [], ◌∷◌, ◌++◌, map, filter, length, get_or, zero, suc, Bool, true, false, not, cond, leb, eqb, ◌&&◌, ◌||◌, ◌==◌, refl, sym, ap, ◌∙◌, subst, inl, inr, ⊎_elim, true≢false, arith, Option, Some, None}
use Rattle.std.proofs.lemmas.Bool.{leb-true, eqb-true, eq-eqb, not-true, ne_eqb, false_from_ne_true}
use Rattle.std.specs.Prelude.{is_some}
use Rattle.std.specs.List.{list_any}
use Rattle.deneva_base.specs.declared.keys.Key.{Key}
use Rattle.deneva_base.specs.declared.keys.Mode.{Mode}
use Rattle.deneva_base.specs.declared.keys.Mode.TheVariants.{Read}
use Rattle.deneva_base.specs.declared.numbers.Attempt.{Attempt}
use Rattle.deneva_base.specs.declared.numbers.Number.{Number}
use Rattle.deneva_base.specs.declared.answers.Answer.{Answer}
use Rattle.deneva_base.specs.declared.answers.Answer.TheVariants.{Granted, Waits, Refused}
use Rattle.deneva_base.specs.declared.answers.Vote.{Vote}
use Rattle.deneva_base.specs.declared.answers.Vote.TheVariants.{Yes, No}
use Rattle.deneva_base.specs.declared.answers.Wake.{Wake}
use Rattle.deneva_base.specs.declared.causes.Bound.{Bound}
use Rattle.deneva_base.specs.declared.rows.Keyed.{Keyed}
use Rattle.deneva_base.specs.Lists.{IsIn}
use Rattle.deneva_base.specs.Modes.{writes}
use Rattle.deneva_base.specs.Rows.{Row, Rows}
use Rattle.deneva_base.specs.Keys.{key_eq, attempt_eq}
use Rattle.deneva_base.proofs.Membership.{in_left, in_right, in_cases, in_map, filter_in, any_at, any_found, and_true, and_parts, attempt_decides, key_decides, writing_decides}
use Rattle.protocol_rules.specs.Conditions.{MayAsk, MayPrepare, MayCommit, MayAbort, Distinct}
use Rattle.protocol_rules.specs.History.{History, Ask, Prepare, Commit, Abort, Asked, Grant, Yea, asks, grants, waits, refused, yeas, aborted, ended, closed, asked_as, wakes_this, grant_of_wake, is_woken, granted, left_waiting}
use Rattle.control_trials.specs.declared.log.Log.{Log}
use Rattle.control_trials.specs.declared.log.Place.{Place}
use Rattle.control_trials.specs.declared.log.Wanted.{Wanted}
use Rattle.control_trials.specs.declared.log.Window.{Window}
use Rattle.control_trials.specs.declared.steps.Cells.{Cells}
use Rattle.control_trials.specs.Logs.{Follows, IsRunning, IsIdle, MayHave, IsHeld, AreHeld, HoldsMore, IsGrantedBy, IsWokenFrom, IsAsked, IsGranted, IsVoted, wanted_of, place_of, is_at, wakes_place}
use Rattle.control_trials.specs.Trials.{HasTrialRows, is_trial_key, trial_key, bound_of, number_of, rows_at, rows_of, key_in}

-- none of the list passes
pub none : {A : Type 0} (p : A → Bool) (xs : List A) → list_any p xs ≡ false → (x : A) → IsIn x xs → p x ≡ true → ⊥
none p xs e x i t = true≢false (sym (any_at p x xs i t) ∙ e)

-- an attempt that is not found is not in the list
pub absent : (who : Attempt) (xs : List Attempt) → list_any (λ a. attempt_eq a who) xs ≡ false → IsIn who xs → ⊥
absent who xs e i = none (λ a. attempt_eq a who) xs e who i ((attempt_decides who who).1 refl)

pub same_attempt : (a b : Attempt) → a ≡ b → attempt_eq a b ≡ true
same_attempt a b e = (attempt_decides a b).1 e

module _ (log : Log) (h : History) (f : Follows log h) (who : Attempt) where
  pub unended : list_any (λ a. attempt_eq a who) log.ended ≡ false → IsIn who (ended h) → ⊥
  unended e i = absent who log.ended e (f.ended who i)

  pub opened : list_any (λ a. attempt_eq a who) log.closed ≡ false → IsIn who (closed h) → ⊥
  opened e i = absent who log.closed e (f.closed who i)

  pub unrefused : list_any (λ a. attempt_eq a who) log.refused ≡ false → IsIn who (refused h) → ⊥
  unrefused e i = absent who log.refused e (f.refused who i)

  pub nowhere : list_any (λ p. attempt_eq p.who who) log.waits.items ≡ false → (a : Asked) → IsIn a (waits h) → a.who ≢ who
  nowhere e a i s = none (λ (p : Place). attempt_eq p.who who) log.waits.items e (place_of a) (f.waits a i) (same_attempt a.who who s)

  pub same_stamp : (stamp : ℕ) → list_any (λ a. attempt_eq a.who who && not (a.stamp == stamp)) log.asks ≡ false → (a : Asked) → IsIn a (asks h) → a.who ≡ who → a.stamp ≡ stamp
  same_stamp stamp e a i s = go (eqb a.stamp stamp) refl
    where
      go : (b : Bool) → eqb a.stamp stamp ≡ b → a.stamp ≡ stamp
      go true t = eqb-true a.stamp stamp t
      go false t = absurd (none (λ (w : Wanted). attempt_eq w.who who && not (w.stamp == stamp)) log.asks e (wanted_of a) (f.asks a i) (and_true (attempt_eq a.who who) (not (eqb a.stamp stamp)) (same_attempt a.who who s) (ap not t)))

  pub own_stamp : (stamp : ℕ) → list_any (λ a. not (a.who.txn.0 == who.txn.0) && (a.stamp == stamp)) log.asks ≡ false → (a : Asked) → IsIn a (asks h) → (a.who.txn ≡ who.txn → ⊥) → a.stamp ≡ stamp → ⊥
  own_stamp stamp e a i n s =
      none (λ (w : Wanted). not (w.who.txn.0 == who.txn.0) && (w.stamp == stamp)) log.asks e (wanted_of a) (f.asks a i)
      (and_true (not (eqb a.who.txn.0 who.txn.0)) (eqb a.stamp stamp) (ap not (ne_eqb a.who.txn.0 who.txn.0 (λ t. n (λ j. record { 0 = t j })))) (eq-eqb a.stamp stamp s))

  pub once : (key : Key) → list_any (λ a. attempt_eq a.who who && key_eq a.key key) log.asks ≡ false → (a : Asked) → IsIn a (asks h) → a.who ≡ who → a.key ≢ key
  once key e a i s k = none (λ (w : Wanted). attempt_eq w.who who && key_eq w.key key) log.asks e (wanted_of a) (f.asks a i) (and_true (attempt_eq a.who who) (key_eq a.key key) (same_attempt a.who who s) ((key_decides a.key key).1 k))

  pub others : list_any (λ a. (a.who.txn.0 == who.txn.0) && (not (attempt_eq a.who who) && not (list_any (λ b. attempt_eq b a.who) log.aborted))) log.asks ≡ false → (a : Asked) → IsIn a (asks h) → a.who.txn ≡ who.txn → a.who ≢ who → IsIn a.who (aborted h)
  others e a i t n = go (list_any (λ b. attempt_eq b a.who) log.aborted) refl
    where
      go : (b : Bool) → list_any (λ b. attempt_eq b a.who) log.aborted ≡ b → IsIn a.who (aborted h)
      go true u = let x = any_found (λ (b : Attempt). attempt_eq b a.who) log.aborted u in f.aborted a.who (subst (λ z. IsIn z log.aborted) ((attempt_decides x.0 a.who).0 x.2) x.1)
      go false u =
          absurd (none (λ (w : Wanted). (w.who.txn.0 == who.txn.0) && (not (attempt_eq w.who who) && not (list_any (λ b. attempt_eq b w.who) log.aborted))) log.asks e (wanted_of a) (f.asks a i)
          (and_true (eqb a.who.txn.0 who.txn.0) (not (attempt_eq a.who who) && not (list_any (λ b. attempt_eq b a.who) log.aborted)) (eq-eqb a.who.txn.0 who.txn.0 (ap (λ z. z.0) t))
          (and_true (not (attempt_eq a.who who)) (not (list_any (λ b. attempt_eq b a.who) log.aborted)) (ap not (false_from_ne_true (attempt_eq a.who who) (λ s. n ((attempt_decides a.who who).0 s)))) (ap not u))))

  pub held : (key : Key) → list_any (λ a. attempt_eq a.who who && (key_eq a.key key && not (writes a.mode))) log.asks ≡ false → list_any (is_at who key) log.grants ≡ true → IsHeld h who key
  held key e found =
      let p = any_found (is_at who key) log.grants found in
      let q = and_parts (attempt_eq p.0.who who) (key_eq p.0.key key) p.2 in
      let g = f.grants p.0 p.1 in
      let a = g.4 in
      let w = (attempt_decides p.0.who who).0 q.0 in
      let k = (key_decides p.0.key key).0 q.1 in
      (g.0, g.1, g.2 ∙ w, g.3 ∙ k, subst (λ m. m ≢ Read) a.4 ((writing_decides a.0.mode).0 (go a.0 a.1 (a.2 ∙ w) (a.3 ∙ k) (writes a.0.mode) refl)))
    where
      go : (a : Asked) → IsIn a (asks h) → a.who ≡ who → a.key ≡ key → (b : Bool) → writes a.mode ≡ b → writes a.mode ≡ true
      go a i s k true t = t
      go a i s k false t =
          absurd (none (λ (w : Wanted). attempt_eq w.who who && (key_eq w.key key && not (writes w.mode))) log.asks e (wanted_of a) (f.asks a i)
          (and_true (attempt_eq a.who who) (key_eq a.key key && not (writes a.mode)) (same_attempt a.who who s) (and_true (key_eq a.key key) (not (writes a.mode)) ((key_decides a.key key).1 k) (ap not t))))

  pub something : list_any (λ p. attempt_eq p.who who) log.grants ≡ true → (g : Grant) × IsIn g (grants h) × (g.who ≡ who)
  something found =
      let p = any_found (λ (p : Place). attempt_eq p.who who) log.grants found in
      let g = f.grants p.0 p.1 in
      (g.0, g.1, g.2 ∙ (attempt_decides p.0.who who).0 p.2)

  pub inside : (n : ℕ) → list_any (λ w. attempt_eq w.who who && (leb w.lo n && leb n w.hi)) log.windows ≡ true → (y : Yea) × IsIn y (yeas h) × (y.who ≡ who) × (y.lo ≤ n) × (n ≤ y.hi)
  inside n found =
      let w = any_found (λ (w : Window). attempt_eq w.who who && (leb w.lo n && leb n w.hi)) log.windows found in
      let p = and_parts (attempt_eq w.0.who who) (leb w.0.lo n && leb n w.0.hi) w.2 in
      let q = and_parts (leb w.0.lo n) (leb n w.0.hi) p.1 in
      let y = f.windows w.0 w.1 in
      (y.0, y.1, y.2 ∙ (attempt_decides w.0.who who).0 p.0, subst (λ z. z ≤ n) (sym y.3) (leb-true w.0.lo n q.0), subst (λ z. n ≤ z) (sym y.4) (leb-true n w.0.hi q.1))

  pub has_asked : list_any (λ a. attempt_eq a.who who) log.asks ≡ true → (a : Asked) × IsIn a (asks h) × (a.who ≡ who)
  has_asked found =
      let w = any_found (λ (w : Wanted). attempt_eq w.who who) log.asks found in
      let a = f.asked w.0 w.1 in
      (a.0, a.1, ap (λ (z : Wanted). z.who) a.2 ∙ (attempt_decides w.0.who who).0 w.2)

-- what the log takes in of a vote, and of an answer
abbrev pub Votes : Log → Log → Attempt → Vote → Type 0
Votes old new who (Yes lo hi) = new.windows ≡ old.windows ++ record { who = who; lo = lo; hi = hi } ∷ []
Votes old new who (No cause) = new.windows ≡ old.windows

abbrev pub Answers : Log → Log → Attempt → Key → Answer → Type 0
Answers old new who key (Granted row version bound) = (new.grants ≡ old.grants ++ record { who = who; key = key } ∷ []) × (new.waits.items ≡ old.waits.items) × (new.refused ≡ old.refused)
Answers old new who key Waits = (new.grants ≡ old.grants) × (new.waits.items ≡ old.waits.items ++ record { who = who; key = key } ∷ []) × (new.refused ≡ old.refused)
Answers old new who key (Refused cause) = (new.grants ≡ old.grants) × (new.waits.items ≡ old.waits.items) × (new.refused ≡ old.refused ++ who ∷ [])

-- the log follows the history with one more call
module _ (old new : Log) (h : History) (f : Follows old h) where
  in_end : {A : Type 0} (x : A) (xs ys : List A) (y : A) → ys ≡ xs ++ y ∷ [] → IsIn x xs → IsIn x ys
  in_end x xs ys y e i = subst (IsIn x) (sym e) (in_left x xs (y ∷ []) i)

  at_end : {A : Type 0} (x : A) (xs ys : List A) (y : A) → ys ≡ xs ++ y ∷ [] → x ≡ y → IsIn x ys
  at_end x xs ys y e s = subst (IsIn x) (sym e) (in_right x xs (y ∷ []) (inl s))

  from_end : {A : Type 0} (x : A) (xs ys : List A) (y : A) → ys ≡ xs ++ y ∷ [] → IsIn x ys → IsIn x xs ⊎ (x ≡ y)
  from_end x xs ys y e i = ⊎_elim (λ l. inl l) (λ r. ⊎_elim (λ s. inr s) (λ b. absurd b) r) (in_cases x xs (y ∷ []) (subst (IsIn x) e i))

  one_more : length h ≤ old.calls → new.calls ≡ old.calls + 1 → suc (length h) ≤ new.calls
  one_more l e = omega (arith, l, e)

  pub after_prepare : (who : Attempt) (bound : Bound) (ws as' : List Keyed) (vote : Vote) → new.calls ≡ old.calls + 1 → new.asks ≡ old.asks → new.waits.items ≡ old.waits.items → new.grants ≡ old.grants
      → new.refused ≡ old.refused → new.closed ≡ old.closed ++ who ∷ [] → new.ended ≡ old.ended → new.aborted ≡ old.aborted → Votes old new who vote → Follows new (Prepare who bound ws as' vote ∷ h)
  after_prepare who bound ws as' vote calls qs ws' gs rs cs es bs vs = record {
    short = one_more f.short calls;
    asks = λ a i. subst (IsIn (wanted_of a)) (sym qs) (f.asks a i);
    asked = λ w i. f.asked w (subst (IsIn w) qs i);
    waits = λ a i. subst (IsIn (place_of a)) (sym ws') (f.waits a i);
    grants = λ p i. f.grants p (subst (IsIn p) gs i);
    refused = λ x i. subst (IsIn x) (sym rs) (f.refused x i);
    closed = λ x i. ⊎_elim (λ s. at_end x old.closed new.closed who cs s) (λ j. in_end x old.closed new.closed who cs (f.closed x j)) i;
    ended = λ x i. subst (IsIn x) (sym es) (f.ended x i);
    aborted = λ x i. f.aborted x (subst (IsIn x) bs i);
    windows = λ w i. voted vote w vs i;
  }
    where
      voted : (vote : Vote) (w : Window) → Votes old new who vote → IsIn w new.windows → IsVoted (Prepare who bound ws as' vote ∷ h) w
      voted (Yes lo hi) w e i = ⊎_elim
          (λ j. let y = f.windows w j in (y.0, inr y.1, y.2, y.3, y.4))
          (λ s. (record { who = who; lo = lo; hi = hi; writes = ws; appends = as' }, inl refl, ap (λ (z : Window). z.who) (sym s), ap (λ (z : Window). z.lo) (sym s), ap (λ (z : Window). z.hi) (sym s)))
          (from_end w old.windows new.windows _ e i)
      voted (No cause) w e i = f.windows w (subst (IsIn w) e i)

  pub after_ask : (w : Wanted) (answer : Answer) → new.calls ≡ old.calls + 1 → new.asks ≡ old.asks ++ w ∷ [] → new.closed ≡ old.closed → new.ended ≡ old.ended → new.aborted ≡ old.aborted → new.windows ≡ old.windows
      → Answers old new w.who w.key answer → Follows new (Ask w.who w.stamp w.key w.mode answer ∷ h)
  after_ask w answer calls qs cs es bs vs marks = record {
    short = one_more f.short calls;
    asks = λ a i. ⊎_elim (λ s. at_end (wanted_of a) old.asks new.asks w qs (ap wanted_of s)) (λ j. in_end (wanted_of a) old.asks new.asks w qs (f.asks a j)) i;
    asked = λ x i. ⊎_elim (λ j. let a = f.asked x j in (a.0, inr a.1, a.2)) (λ s. (_, inl refl, sym s)) (from_end x old.asks new.asks w qs i);
    waits = λ a i. waiting answer marks a i;
    grants = λ p i. holding answer marks p i;
    refused = λ x i. refusing answer marks x i;
    closed = λ x i. subst (IsIn x) (sym cs) (f.closed x i);
    ended = λ x i. subst (IsIn x) (sym es) (f.ended x i);
    aborted = λ x i. f.aborted x (subst (IsIn x) bs i);
    windows = λ x i. f.windows x (subst (IsIn x) vs i);
  }
    where
      waiting : (answer : Answer) → Answers old new w.who w.key answer → (a : Asked) → IsIn a (waits (Ask w.who w.stamp w.key w.mode answer ∷ h)) → IsIn (place_of a) new.waits.items
      waiting (Granted row version bound) m a i = subst (IsIn (place_of a)) (sym m.1) (f.waits a i)
      waiting Waits m a i = ⊎_elim (λ s. at_end (place_of a) old.waits.items new.waits.items _ m.1 (ap place_of s)) (λ j. in_end (place_of a) old.waits.items new.waits.items _ m.1 (f.waits a j)) i
      waiting (Refused cause) m a i = subst (IsIn (place_of a)) (sym m.1) (f.waits a i)

      earlier : (answer : Answer) (p : Place) → IsGranted h p → IsGranted (Ask w.who w.stamp w.key w.mode answer ∷ h) p
      earlier answer p g = (g.0, in_right g.0 (granted w.who w.stamp w.key w.mode answer) (grants h) g.1, g.2, g.3, (g.4.0, inr g.4.1, g.4.2, g.4.3, g.4.4))

      holding : (answer : Answer) → Answers old new w.who w.key answer → (p : Place) → IsIn p new.grants → IsGranted (Ask w.who w.stamp w.key w.mode answer ∷ h) p
      holding (Granted row version bound) m p i = ⊎_elim
          (λ j. earlier (Granted row version bound) p (f.grants p j))
          (λ s. let who = ap (λ (z : Place). z.who) (sym s) in let key = ap (λ (z : Place). z.key) (sym s) in
          (record { who = w.who; stamp = w.stamp; key = w.key; mode = w.mode; row = row; version = version }, inl refl, who, key, (record { who = w.who; stamp = w.stamp; key = w.key; mode = w.mode }, inl refl, who, key, refl)))
          (from_end p old.grants new.grants _ m.0 i)
      holding Waits m p i = earlier Waits p (f.grants p (subst (IsIn p) m.0 i))
      holding (Refused cause) m p i = earlier (Refused cause) p (f.grants p (subst (IsIn p) m.0 i))

      refusing : (answer : Answer) → Answers old new w.who w.key answer → (x : Attempt) → IsIn x (refused (Ask w.who w.stamp w.key w.mode answer ∷ h)) → IsIn x new.refused
      refusing (Granted row version bound) m x i = subst (IsIn x) (sym m.2) (f.refused x i)
      refusing Waits m x i = subst (IsIn x) (sym m.2) (f.refused x i)
      refusing (Refused cause) m x i = ⊎_elim (λ s. at_end x old.refused new.refused _ m.2 s) (λ j. in_end x old.refused new.refused _ m.2 (f.refused x j)) i

asked_as_found : (as' : List Asked) (w : Wake) → list_any (wakes_this w) as' ≡ true → IsIn (asked_as as' w) as' × (wakes_this w (asked_as as' w) ≡ true)
asked_as_found [] w e = absurd (true≢false (sym e))
asked_as_found (a ∷ as') w e = go (wakes_this w a) refl e (asked_as_found as' w)
  where
    go : (b : Bool) → wakes_this w a ≡ b → (b || list_any (wakes_this w) as') ≡ true → (list_any (wakes_this w) as' ≡ true → IsIn (asked_as as' w) as' × (wakes_this w (asked_as as' w) ≡ true))
        → IsIn (cond b a (asked_as as' w)) (a ∷ as') × (wakes_this w (cond b a (asked_as as' w)) ≡ true)
    go true t e next = (inl refl, t)
    go false t e next = let r = next e in (inr r.0, r.1)

-- the log follows the history with one more end
module _ (old mid new : Log) (h : History) (f : Follows old h) (who : Attempt) (woken : List Wake) (m : IsWokenFrom mid woken new) (qs : mid.asks ≡ old.asks) where
  pub waits_left : mid.waits.items ≡ old.waits.items → (a : Asked) → IsIn a (filter (λ a. not (is_woken woken a)) (waits h)) → IsIn (place_of a) new.waits.items
  waits_left ws a i =
      let l = filter_in (λ a. not (is_woken woken a)) a (waits h) i in
      m.waits (place_of a) (subst (IsIn (place_of a)) (sym ws) (f.waits a l.0)) (not-true (is_woken woken a) l.1)

  pub grants_now : mid.grants ≡ old.grants → (p : Place) → IsIn p new.grants
      → (g : Grant) × IsIn g (map (grant_of_wake h) woken ++ grants h) × (g.who ≡ p.who) × (g.key ≡ p.key) × ((a : Asked) × IsIn a (asks h) × (a.who ≡ p.who) × (a.key ≡ p.key) × (a.mode ≡ g.mode))
  grants_now gs p i = ⊎_elim
      (λ j. let g = f.grants p (subst (IsIn p) gs j) in (g.0, in_right g.0 (map (grant_of_wake h) woken) (grants h) g.1, g.2, g.3, g.4))
      (λ x.
      let by = x.0 in
      let w : Wake = by.0 in
      let found = any_found (λ (a : Wanted). attempt_eq a.who p.who && key_eq a.key p.key) mid.asks x.1 in
      let a = f.asked found.0 (subst (IsIn found.0) qs found.1) in
      let same = and_parts (attempt_eq found.0.who p.who) (key_eq found.0.key p.key) found.2 in
      let a_who : a.0.who ≡ p.who = ap (λ (z : Wanted). z.who) a.2 ∙ (attempt_decides found.0.who p.who).0 same.0 in
      let a_key : a.0.key ≡ p.key = ap (λ (z : Wanted). z.key) a.2 ∙ (key_decides found.0.key p.key).0 same.1 in
      let wakes : wakes_this w a.0 ≡ true = and_true (attempt_eq w.who a.0.who) (key_eq w.key a.0.key) ((attempt_decides w.who a.0.who).1 (by.2 ∙ sym a_who)) ((key_decides w.key a.0.key).1 (by.3 ∙ sym a_key)) in
      let r = asked_as_found (asks h) w (any_at (wakes_this w) a.0 (asks h) a.1 wakes) in
      let b : Asked = asked_as (asks h) w in
      let t = and_parts (attempt_eq w.who b.who) (key_eq w.key b.key) r.1 in (
        grant_of_wake h w,
        in_left (grant_of_wake h w) (map (grant_of_wake h) woken) (grants h) (in_map (grant_of_wake h) w woken by.1),
        by.2,
        by.3,
        (b, r.0, sym ((attempt_decides w.who b.who).0 t.0) ∙ by.2, sym ((key_decides w.key b.key).0 t.1) ∙ by.3, refl),
      ))
      (m.grants p i)

  pub after_commit : (number : Number) → mid.calls ≡ old.calls + 1 → mid.waits.items ≡ old.waits.items → mid.grants ≡ old.grants → mid.refused ≡ old.refused → mid.closed ≡ old.closed → mid.ended ≡ old.ended ++ who ∷ []
      → mid.aborted ≡ old.aborted → mid.windows ≡ old.windows → Follows new (Commit who number woken ∷ h)
  after_commit number calls ws gs rs cs es bs vs = record {
    short = one_more old new h f f.short (m.calls ∙ calls);
    asks = λ a i. subst (IsIn (wanted_of a)) (sym (m.asks ∙ qs)) (f.asks a i);
    asked = λ w i. f.asked w (subst (IsIn w) (m.asks ∙ qs) i);
    waits = waits_left ws;
    grants = grants_now gs;
    refused = λ x i. subst (IsIn x) (sym (m.refused ∙ rs)) (f.refused x i);
    closed = λ x i. subst (IsIn x) (sym (m.closed ∙ cs)) (f.closed x i);
    ended = λ x i. ⊎_elim (λ s. at_end old new h f x old.ended new.ended who (m.ended ∙ es) s) (λ j. in_end old new h f x old.ended new.ended who (m.ended ∙ es) (f.ended x j)) i;
    aborted = λ x i. f.aborted x (subst (IsIn x) (m.aborted ∙ bs) i);
    windows = λ w i. f.windows w (subst (IsIn w) (m.windows ∙ vs) i);
  }

  pub after_abort : mid.calls ≡ old.calls + 1 → mid.waits.items ≡ old.waits.items → mid.grants ≡ old.grants → mid.refused ≡ old.refused → mid.closed ≡ old.closed → mid.ended ≡ old.ended ++ who ∷ []
      → mid.aborted ≡ old.aborted ++ who ∷ [] → mid.windows ≡ old.windows → Follows new (Abort who woken ∷ h)
  after_abort calls ws gs rs cs es bs vs = record {
    short = one_more old new h f f.short (m.calls ∙ calls);
    asks = λ a i. subst (IsIn (wanted_of a)) (sym (m.asks ∙ qs)) (f.asks a i);
    asked = λ w i. f.asked w (subst (IsIn w) (m.asks ∙ qs) i);
    waits = waits_left ws;
    grants = grants_now gs;
    refused = λ x i. subst (IsIn x) (sym (m.refused ∙ rs)) (f.refused x i);
    closed = λ x i. subst (IsIn x) (sym (m.closed ∙ cs)) (f.closed x i);
    ended = λ x i. ⊎_elim (λ s. at_end old new h f x old.ended new.ended who (m.ended ∙ es) s) (λ j. in_end old new h f x old.ended new.ended who (m.ended ∙ es) (f.ended x j)) i;
    aborted = λ x i. ⊎_elim (λ j. inr (f.aborted x j)) (λ s. inl s) (from_end old new h f x old.aborted new.aborted who (m.aborted ∙ bs) i);
    windows = λ w i. f.windows w (subst (IsIn w) (m.windows ∙ vs) i);
  }

-- what stands at an index is in the list
pub in_at : {A : Type 0} (xs : List A) (i : ℕ) (d : A) → i < length xs → IsIn (get_or xs i d) xs
in_at [] i d less = absurd (omega (arith, less))
in_at (x ∷ xs) zero d less = inl refl
in_at (x ∷ xs) (suc i) d less = inr (in_at xs i d (omega (arith, less)))

-- the rows that an attempt writes
pub both_held : (h : History) (who : Attempt) (xs ys : List Keyed) → AreHeld h who xs → AreHeld h who ys → AreHeld h who (xs ++ ys)
both_held h who xs ys f g w i = ⊎_elim (f w) (g w) (in_cases w xs ys i)

pub distinct_rows : (table : ℕ) (first second : Option ℕ) → Distinct (rows_at table 0 first ++ rows_at table 1 second)
distinct_rows table None None = tt
distinct_rows table None (Some m) = ((λ x i. absurd i), tt)
distinct_rows table (Some n) None = ((λ x i. absurd i), tt)
distinct_rows table (Some n) (Some m) = ((λ x i e. ⊎_elim (λ s. apart x.key.a (ap (λ (z : Keyed). z.key.a) s) (ap (λ (k : Key). k.a) e)) (λ b. b) i), ((λ x i. absurd i), tt))
  where
    apart : (n : ℕ) → n ≡ 1 → n ≡ 0 → ⊥
    apart n e f = omega (arith, e, f)

pub in_table : (table : ℕ) (first second : Option ℕ) (w : Keyed) → IsIn w (rows_at table 0 first ++ rows_at table 1 second) → w.key.table ≡ table
in_table table None None w i = absurd i
in_table table None (Some m) w i = ⊎_elim (λ s. ap (λ (z : Keyed). z.key.table) s) (λ b. absurd b) i
in_table table (Some n) None w i = ⊎_elim (λ s. ap (λ (z : Keyed). z.key.table) s) (λ b. absurd b) i
in_table table (Some n) (Some m) w i = ⊎_elim (λ s. ap (λ (z : Keyed). z.key.table) s) (λ r. ⊎_elim (λ s. ap (λ (z : Keyed). z.key.table) s) (λ b. absurd b) r) i

-- the attempt may prepare with rows where it may without, and holds the rows that it writes
pub with_rows : (h : History) (who : Attempt) (n : ℕ) (writes appends : Cells) → MayPrepare h who (bound_of n) [] [] → AreHeld h who (rows_of 0 writes) → MayPrepare h who (bound_of n) (rows_of 0 writes) (rows_of 5 appends)
with_rows h who n writes appends p held = record {
  short = p.short;
  something = p.something;
  nowhere = p.nowhere;
  unrefused = p.unrefused;
  opened = p.opened;
  unended = p.unended;
  small = p.small;
  held = held;
  distinct = distinct_rows 0 writes.first writes.second;
  distinct_appends = distinct_rows 5 appends.first appends.second;
  tables = λ w i. let t = in_table 5 appends.first appends.second w i in (omega (arith, t), omega (arith, t));
}

pub there : (o : Option Row) → is_some o ≡ true → (row : Row) × (o ≡ Some row)
there None e = absurd (true≢false (sym e))
there (Some row) e = (row, refl)

-- the log with one more grant, of an access that one of the wakes granted
pub held_more : (old mid : Log) (woken : List Wake) (w : Wake) (gs : List Place) → HoldsMore old woken mid → IsIn w woken → list_any (λ a. attempt_eq a.who w.who && key_eq a.key w.key) mid.asks ≡ true → gs ≡ mid.grants ++ record { who = w.who; key = w.key } ∷ []
    → HoldsMore old woken (record { calls = mid.calls; asks = mid.asks; waits = mid.waits; grants = gs; refused = mid.refused; closed = mid.closed; ended = mid.ended; aborted = mid.aborted; windows = mid.windows })
held_more old mid woken w gs m i asked is = record {
  calls = m.calls;
  asks = m.asks;
  waits = m.waits;
  refused = m.refused;
  closed = m.closed;
  ended = m.ended;
  aborted = m.aborted;
  windows = m.windows;
  grants = λ p j. ⊎_elim (λ l. m.grants p l) (λ r. ⊎_elim (λ s. inr (by p s)) (λ b. absurd b) r) (in_cases p mid.grants (record { who = w.who; key = w.key } ∷ []) (subst (IsIn p) is j));
}
  where
    by : (p : Place) → p ≡ record { who = w.who; key = w.key } → IsGrantedBy woken p × (list_any (λ a. attempt_eq a.who p.who && key_eq a.key p.key) old.asks ≡ true)
    by p s = subst (λ (q : Place). IsGrantedBy woken q × (list_any (λ a. attempt_eq a.who q.who && key_eq a.key q.key) old.asks ≡ true)) (sym s)
        ((w, i, refl, refl), subst (λ (l : List Wanted). list_any (λ a. attempt_eq a.who w.who && key_eq a.key w.key) l ≡ true) m.asks asked)
