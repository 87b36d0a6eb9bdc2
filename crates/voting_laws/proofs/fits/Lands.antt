-- What was said is in flight or was handled.
use Rattle.std.proofs.Common.{◌≡◌, ◌⊎◌, ℕ, ◌≤◌, List, [], ◌∷◌, ◌++◌, length, Bool, true, false, cond, eqb, refl, sym, ap, ◌∙◌, subst, inl, inr, ⊎_elim, arith}
use Rattle.std.proofs.lemmas.Bool.Decides.{nat_tests, eqb_tells}
use Rattle.deneva_base.specs.Lists.{IsIn}
use Rattle.deneva_base.proofs.Membership.{in_left, in_right, in_cases}
use Rattle.server_core.specs.declared.messages.Msg.{Msg}
use Rattle.server_core.specs.declared.messages.Mail.{Mail}
use Rattle.server_core.specs.declared.messages.Entry.{Entry}
use Rattle.server_core.specs.Runs.{Saying, heard, Reaches}
use Rattle.server_core.specs.Counts.{all_said}
use Rattle.server_core.proofs.counts.Conserved.{handled}
use Rattle.server_core.proofs.counts.Local.{count_msgs}

pub lands : (says : Saying) (opening : List Mail) (H : List Entry) (flight : List Mail) → Reaches says opening H flight → (p : ℕ) (x : Mail) → IsIn x (all_said says p (heard p H)) → IsIn x flight ⊎ IsIn x (handled H)
lands says opening [] flight run p x i = absurd i
lands says opening (e ∷ H) flight run p x i =
    ⊎_elim
    (λ (t : (eqb e.node p ≡ true) × (e.node ≡ p)).
    let j : IsIn x (says p (e.msg ∷ heard p H) ++ all_said says p (heard p H)) = subst (λ b. IsIn x (all_said says p (cond b (e.msg ∷ heard p H) (heard p H)))) t.0 i in
    ⊎_elim
    (λ new. inl (subst (λ l. IsIn x l) (sym st.left) (in_right x (st.front ++ st.back) (says m.to (m.msg ∷ heard m.to H)) (subst (λ (y : Entry). IsIn x (says y.node (y.msg ∷ heard y.node H))) run.2 (subst (λ q. IsIn x (says q (e.msg ∷ heard q H))) (sym t.1) new)))))
    (λ o. old o (lands says opening H run.0 run.4 p x))
    (in_cases x (says p (e.msg ∷ heard p H)) (all_said says p (heard p H)) j))
    (λ (t : (eqb e.node p ≡ false) × (e.node ≡ p → ⊥)). old (subst (λ b. IsIn x (all_said says p (cond b (e.msg ∷ heard p H) (heard p H)))) t.0 i) (lands says opening H run.0 run.4 p x))
    (eqb_tells e.node p)
  where
    m : Mail
    m = run.1

    st : Rattle.server_core.specs.Runs.Step run.0 flight run.1 (says run.1.to (run.1.msg ∷ heard run.1.to H))
    st = run.3

    still : IsIn x (st.front ++ m ∷ st.back) → IsIn x flight ⊎ IsIn x (handled (e ∷ H))
    still j =
        ⊎_elim
        (λ f. inl (subst (λ l. IsIn x l) (sym st.left) (in_left x (st.front ++ st.back) (says m.to (m.msg ∷ heard m.to H)) (in_left x st.front st.back f))))
        (λ r. ⊎_elim
        (λ (is : x ≡ m). inr (inl (is ∙ ap (λ (y : Entry). record { from = y.from; to = y.node; msg = y.msg }) (sym run.2))))
        (λ b. inl (subst (λ l. IsIn x l) (sym st.left) (in_left x (st.front ++ st.back) (says m.to (m.msg ∷ heard m.to H)) (in_right x st.front st.back b))))
        r)
        (in_cases x st.front (m ∷ st.back) j)

    old : IsIn x (all_said says p (heard p H)) → (IsIn x (all_said says p (heard p H)) → IsIn x run.0 ⊎ IsIn x (handled H)) → IsIn x flight ⊎ IsIn x (handled (e ∷ H))
    old j next = ⊎_elim (λ f. still (subst (λ l. IsIn x l) st.stood f)) (λ h. inr (inr h)) (next j)

pub msg_counted : (t : Msg → Bool) (ms : List Msg) (m : Msg) → IsIn m ms → t m ≡ true → 1 ≤ count_msgs t ms
msg_counted t [] m i e = absurd i
msg_counted t (y ∷ ms) m i e =
    ⊎_elim
    (λ is. let f : t y ≡ true = subst (λ z. t z ≡ true) is e in rw f (omega arith))
    (λ r. omega (arith, msg_counted t ms m r e))
    i

pub handled_heard : (H : List Entry) (x : Mail) → IsIn x (handled H) → IsIn x.msg (heard x.to H)
handled_heard [] x i = absurd i
handled_heard (e ∷ H) x i =
    ⊎_elim
    (λ (is : x ≡ record { from = e.from; to = e.node; msg = e.msg }). subst (λ (y : Mail). IsIn y.msg (heard y.to (e ∷ H))) (sym is) (subst (λ b. IsIn e.msg (cond b (e.msg ∷ heard e.node H) (heard e.node H))) (sym (same e.node)) (inl refl)))
    (λ r. go (eqb e.node x.to) (handled_heard H x r))
    i
  where
    same : (n : ℕ) → eqb n n ≡ true
    same n = grind (arith, nat_tests)

    go : (b : Bool) → IsIn x.msg (heard x.to H) → IsIn x.msg (cond b (e.msg ∷ heard x.to H) (heard x.to H))
    go true j = inr j
    go false j = j

-- a node's messages are no more than all entries
pub heard_short : (p : ℕ) (H : List Entry) → length (heard p H) ≤ length H
heard_short p [] = omega arith
heard_short p (e ∷ H) = grind (arith, heard_short p H)
