-- Whoever calls a partition or is woken there has asked there, so that its transaction is one of the workload; and no
-- more are woken than wait.
use Rattle.std.proofs.Common.{◌≡◌, ◌≢◌, ◌≤◌, ◌+◌, ℕ, suc, List, [], ◌∷◌, ◌++◌, length, filter, Bool, true, false, cond, not, refl, sym, ap, ◌∙◌, subst, inl, inr, ⊎_elim, arith, true≢false}
use Rattle.deneva_base.specs.declared.numbers.Attempt.{Attempt}
use Rattle.deneva_base.specs.declared.causes.Bound.{Bound}
use Rattle.deneva_base.specs.declared.answers.Wake.{Wake}
use Rattle.deneva_base.specs.declared.answers.Vote.{Vote}
use Rattle.deneva_base.specs.declared.answers.Vote.TheVariants.{Yes, No}
use Rattle.deneva_base.specs.declared.answers.Answer.{Answer}
use Rattle.deneva_base.specs.declared.answers.Answer.TheVariants.{Granted, Waits, Refused}
use Rattle.deneva_base.specs.declared.numbers.Number.{Number}
use Rattle.deneva_base.specs.declared.rows.Keyed.{Keyed}
use Rattle.deneva_base.specs.Lists.{IsIn}
use Rattle.protocol_rules.specs.Conditions.{MayPrepare, MayCommit, MayAbort}
use Rattle.protocol_rules.specs.History.{Ask as Asked', Prepare as Prepared, Commit as Committed, Abort as Aborted, History, Asked, Yea, asks, waits, left_waiting, yea, yeas, is_woken, wakes_this}
use Rattle.protocol_rules.specs.Wakes.{Once, WakesWaiters}
use Rattle.deneva_base.proofs.Membership.{and_parts, attempt_decides, key_decides}
use Rattle.protocol_rules.proofs.Traced.{wakes_this_true}
use Rattle.server_core.specs.declared.messages.Msg.{Msg}
use Rattle.server_core.specs.declared.messages.Msg.TheVariants.{Ask, Prepare}
use Rattle.server_core.specs.Participant.{calls}
use Rattle.server_core.specs.Proper.{Valid}
use Rattle.server_core.specs.Setting.{Setting, rule_at}
use Rattle.server_core.specs.VotingFits.{AllFit}
use Rattle.server_core.proofs.values.Called.{knows, traces}

-- no more accesses are woken than wait
filter_shorter : (p : Asked → Bool) (xs : List Asked) → length (filter p xs) ≤ length xs
filter_shorter p [] = omega arith
filter_shorter p (x ∷ xs) = go (p x) (filter_shorter p xs)
  where
    go : (b : Bool) → length (filter p xs) ≤ length xs → length (cond b (x ∷ filter p xs) (filter p xs)) ≤ suc (length xs)
    go true h = omega (arith, h)
    go false h = omega (arith, h)

abbrev pub is_other : Wake → Asked → Bool
is_other w a = not (wakes_this w a)

one_less : (w : Wake) (a : Asked) (xs : List Asked) → IsIn a xs → a.who ≡ w.who → a.key ≡ w.key → length (filter (is_other w) xs) + 1 ≤ length xs
one_less w a [] i e f = absurd i
one_less w a (x ∷ xs) i e f = go (wakes_this w x) refl (λ r. one_less w a xs r e f)
  where
    go : (b : Bool) → wakes_this w x ≡ b → (IsIn a xs → length (filter (is_other w) xs) + 1 ≤ length xs) → length (cond (not b) (x ∷ filter (is_other w) xs) (filter (is_other w) xs)) + 1 ≤ suc (length xs)
    go true t more = let h = filter_shorter (is_other w) xs in omega (arith, h)
    go false t more =
        ⊎_elim
        (λ (same : a ≡ x). absurd (true≢false (sym (wakes_this_true w x (sym e ∙ ap (λ (y : Asked). y.who) same) (sym f ∙ ap (λ (y : Asked). y.key) same)) ∙ t)))
        (λ r. let h = more r in omega (arith, h))
        i

stays : (w x : Wake) (a : Asked) (xs : List Asked) → IsIn a xs → a.who ≡ x.who → a.key ≡ x.key → (x.who ≡ w.who → x.key ≢ w.key) → IsIn a (filter (is_other w) xs)
stays w x a [] i e f apart = absurd i
stays w x a (y ∷ ys) i e f apart = go (wakes_this w y) refl (λ r. stays w x a ys r e f apart)
  where
    go : (b : Bool) → wakes_this w y ≡ b → (IsIn a ys → IsIn a (filter (is_other w) ys)) → IsIn a (cond (not b) (y ∷ filter (is_other w) ys) (filter (is_other w) ys))
    go false t more = ⊎_elim (λ same. inl same) (λ r. inr (more r)) i
    go true t more =
        ⊎_elim
        (λ (same : a ≡ y).
        let both = and_parts _ _ t in
        absurd (apart (sym e ∙ ap (λ (z : Asked). z.who) same ∙ sym ((attempt_decides w.who y.who).0 both.0)) (sym f ∙ ap (λ (z : Asked). z.key) same ∙ sym ((key_decides w.key y.key).0 both.1))))
        more
        i

few : (ws : List Wake) (xs : List Asked) → Once ws → ((w : Wake) → IsIn w ws → (a : Asked) × IsIn a xs × (a.who ≡ w.who) × (a.key ≡ w.key)) → length ws ≤ length xs
few [] xs once waited = omega arith
few (w ∷ ws) xs once waited =
    let a = waited w (inl refl) in
    let less = one_less w a.0 xs a.1 a.2 a.3 in
    let rest = few ws (filter (is_other w) xs) once.1 (λ x i. let b = waited x (inr i) in (b.0, stays w x b.0 xs b.1 b.2 b.3 (once.0 x i), b.2, b.3)) in
    omega (arith, less, rest)

pub few_woken : (h : History) (ws : List Wake) → WakesWaiters h ws → length ws ≤ length (waits h)
few_woken h ws k = few ws (waits h) k.once k.waited

left_short : (a : Asked) (answer : Answer) (n : ℕ) (xs : List Asked) → length xs ≤ n → length (left_waiting a answer ++ xs) ≤ suc n
left_short a (Granted row version bound) n xs h = omega (arith, h)
left_short a Waits n xs h = omega (arith, h)
left_short a (Refused cause) n xs h = omega (arith, h)

pub waits_short : (h : History) → length (waits h) ≤ length h
waits_short [] = omega arith
waits_short (Asked' who stamp key mode answer ∷ h) = left_short (record { who = who; stamp = stamp; key = key; mode = mode }) answer (length h) (waits h) (waits_short h)
waits_short (Prepared who bound writes appends vote ∷ h) = let e = waits_short h in omega (arith, e)
waits_short (Committed who number woken ∷ h) = let e = waits_short h in let f = filter_shorter (λ a. not (is_woken woken a)) (waits h) in omega (arith, e, f)
waits_short (Aborted who woken ∷ h) = let e = waits_short h in let f = filter_shorter (λ a. not (is_woken woken a)) (waits h) in omega (arith, e, f)

module _ (s : Setting) (p : ℕ) where
  -- who asked
  pub asked_known : (ms : List Msg) (a : Asked) → AllFit s p ms → IsIn a (asks (calls s p ms)) → IsIn a.who.txn s.ids
  asked_known [] a fit i = absurd i
  asked_known (Ask who stamp key mode ∷ ms) a fit i =
      ⊎_elim
      (λ (e : a ≡ record { who = who; stamp = stamp; key = key; mode = mode }). subst (λ (z : Asked). IsIn z.who.txn s.ids) (sym e) fit.0.1.4)
      (λ r. asked_known ms a fit.1 r)
      i
  asked_known (m ∷ ms) a fit i = asked_known ms a fit.1 i

  known_as : (ms : List Msg) (a : Asked) (who : Attempt) → AllFit s p ms → IsIn a (asks (calls s p ms)) → a.who ≡ who → IsIn who.txn s.ids
  known_as ms a who fit i e = subst (λ (x : Attempt). IsIn x.txn s.ids) e (asked_known ms a fit i)

  -- who is woken
  pub woken_known : (ms : List Msg) (ws : List Wake) → AllFit s p ms → WakesWaiters (calls s p ms) ws → (w : Wake) → IsIn w ws → IsIn w.who.txn s.ids
  woken_known ms ws fit k w i = let a = k.waited w i in known_as ms a.0 w.who fit ((knows s p ms fit).asked a.0 a.1) a.2

  pub abort_known : (ms : List Msg) (who : Attempt) → AllFit s p ms → MayAbort (calls s p ms) who → IsIn who.txn s.ids
  abort_known ms who fit may = let a = may.asked in known_as ms a.0 who fit a.1 a.2

  module _ (v : Valid s) where
    -- who has a grant
    pub prepare_known : (ms : List Msg) (who : Attempt) (bound : Bound) (writes appends : List Keyed) → AllFit s p ms → MayPrepare (calls s p ms) who bound writes appends → IsIn who.txn s.ids
    prepare_known ms who bound writes appends fit may =
        let g = may.something in
        let a = (traces s v p ms fit).asked g.0 g.1 in
        known_as ms a.0 who fit a.1 (a.2 ∙ g.2)

    voted : (ms : List Msg) (who : Attempt) (writes appends : List Keyed) (vote : Vote) (y : Yea) → IsIn who.txn s.ids → (IsIn y (yeas (calls s p ms)) → IsIn y.who.txn s.ids) → IsIn y (yea who writes appends vote ++ yeas (calls s p ms)) → IsIn y.who.txn s.ids
    voted ms who writes appends (Yes lo hi) y known before i =
        ⊎_elim
        (λ (e : y ≡ record { who = who; lo = lo; hi = hi; writes = writes; appends = appends }). subst (λ (z : Yea). IsIn z.who.txn s.ids) (sym e) known)
        before
        i
    voted ms who writes appends (No cause) y known before i = before i

    -- who voted Yes
    yea_known : (ms : List Msg) (y : Yea) → AllFit s p ms → IsIn y (yeas (calls s p ms)) → IsIn y.who.txn s.ids
    yea_known [] y fit i = absurd i
    yea_known (Prepare who bound writes appends ∷ ms) y fit i =
        voted ms who writes appends ((rule_at s p).vote (calls s p ms) who bound writes appends) y (prepare_known ms who bound writes appends fit.1 fit.0.1.1) (yea_known ms y fit.1) i
    yea_known (m ∷ ms) y fit i = yea_known ms y fit.1 i

    pub commit_known : (ms : List Msg) (who : Attempt) (number : Number) → AllFit s p ms → MayCommit (calls s p ms) who number → IsIn who.txn s.ids
    commit_known ms who number fit may = let y = may.inside in subst (λ (x : Attempt). IsIn x.txn s.ids) y.2 (yea_known ms y.0 fit y.1)
