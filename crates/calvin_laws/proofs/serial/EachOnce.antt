-- The global order has the transactions of the workload, each once.
use Rattle.std.proofs.Common.{◌≡◌, ℕ, ◌+◌, ◌≤◌, List, [], ◌∷◌, ◌++◌, eqb, true, cond, refl, sym, ap, subst, inl, inr, ⊎_elim, arith}
use Rattle.std.specs.Prelude.{IsPermutation}
use Rattle.std.proofs.lemmas.List.Sorted.{IsPermutation-refl, IsPermutation-sym, IsPermutation-trans, IsPermutation-cons, IsPermutation-middle}
use Rattle.std.proofs.lemmas.Bool.Decides.{nat_tests}
use Rattle.deneva_base.specs.Lists.{IsIn}
use Rattle.deneva_base.specs.declared.numbers.TxnId.{TxnId}
use Rattle.deneva_base.proofs.Membership.{in_left, in_right, in_cases}
use Rattle.server_core.specs.CalvinProper.{Valid}
use Rattle.server_core.specs.GlobalOrder.{order}
use Rattle.server_core.specs.Proper.{ids_in}
use Rattle.server_core.specs.Setting.{Setting}
use Rattle.calvin_laws.proofs.order.Orders.{ids-append, order_in, in_order, order_once}

counted : (x : TxnId) (ys : List TxnId) → IsIn x ys → 1 ≤ ids_in x ys
counted x [] i = absurd i
counted x (y ∷ ys) i = ⊎_elim (λ (e : x ≡ y). let f : eqb y.0 x.0 ≡ true = subst (λ (z : TxnId). eqb z.0 x.0 ≡ true) e (same x.0) in rw f (omega arith)) (λ r. let n = counted x ys r in omega (arith, n)) i
  where
    same : (n : ℕ) → eqb n n ≡ true
    same n = grind (arith, nat_tests)

-- what stands before an element of a list, and what behind it
split : (x : TxnId) (ys : List TxnId) → IsIn x ys → (front : List TxnId) × (back : List TxnId) × (ys ≡ front ++ x ∷ back)
split x [] i = absurd i
split x (y ∷ ys) i =
    ⊎_elim
    (λ (e : x ≡ y). ([], ys, ap (λ z. z ∷ ys) (sym e)))
    (λ r. let n = split x ys r in (y ∷ n.0, n.1, ap (λ l. y ∷ l) n.2))
    i

-- lists with the same elements, none of them twice
pub same_once : (xs ys : List TxnId) → ((z : TxnId) → ids_in z xs ≤ 1) → ((z : TxnId) → ids_in z ys ≤ 1) → ((z : TxnId) → IsIn z xs → IsIn z ys) → ((z : TxnId) → IsIn z ys → IsIn z xs) → IsPermutation xs ys
same_once [] [] one once into onto = IsPermutation-refl []
same_once [] (y ∷ ys) one once into onto = absurd (onto y (inl refl))
same_once (x ∷ xs) ys one once into onto = go (split x ys (into x (inl refl))) (λ zs o i j. same_once xs zs fewer o i j)
  where
    self : (n : ℕ) → eqb n n ≡ true
    self n = grind (arith, nat_tests)

    fewer : (z : TxnId) → ids_in z xs ≤ 1
    fewer z = let o = one z in omega (arith, o)

    not_again : IsIn x xs → ⊥
    not_again i =
        let o : cond (eqb x.0 x.0) 1 0 + ids_in x xs ≤ 1 = one x in
        let p : 1 + ids_in x xs ≤ 1 = subst (λ b. cond b 1 0 + ids_in x xs ≤ 1) (self x.0) o in
        let n = counted x xs i in
        omega (arith, p, n)

    go : (front : List TxnId) × (back : List TxnId) × (ys ≡ front ++ x ∷ back)
        → ((zs : List TxnId) → ((z : TxnId) → ids_in z zs ≤ 1) → ((z : TxnId) → IsIn z xs → IsIn z zs) → ((z : TxnId) → IsIn z zs → IsIn z xs) → IsPermutation xs zs)
        → IsPermutation (x ∷ xs) ys
    go h next =
        let front : List TxnId = h.0 in
        let back : List TxnId = h.1 in
        let counts : (z : TxnId) → ids_in z front + (cond (eqb x.0 z.0) 1 0 + ids_in z back) ≤ 1
        = λ z. let a = ids-append z front (x ∷ back) in let o : ids_in z (front ++ x ∷ back) ≤ 1 = subst (λ l. ids_in z l ≤ 1) h.2 (once z) in omega (arith, a, o) in
        let gone : IsIn x (front ++ back) → ⊥
        = λ i.
        let c : ids_in x front + (1 + ids_in x back) ≤ 1 = subst (λ b. ids_in x front + (cond b 1 0 + ids_in x back) ≤ 1) (self x.0) (counts x) in
        let a = ids-append x front back in
        let n = counted x (front ++ back) i in
        omega (arith, c, a, n) in
        let less : (z : TxnId) → ids_in z (front ++ back) ≤ 1 = λ z. let c = counts z in let a = ids-append z front back in omega (arith, c, a) in
        let inside : (z : TxnId) → IsIn z xs → IsIn z (front ++ back)
        = λ z i.
        ⊎_elim
        (λ f. in_left z front back f)
        (λ b. ⊎_elim (λ (e : z ≡ x). absurd (not_again (subst (λ y. IsIn y xs) e i))) (λ r. in_right z front back r) b)
        (in_cases z front (x ∷ back) (subst (λ l. IsIn z l) h.2 (into z (inr i)))) in
        let outside : (z : TxnId) → IsIn z (front ++ back) → IsIn z xs
        = λ z i.
        ⊎_elim
        (λ (e : z ≡ x). absurd (gone (subst (λ y. IsIn y (front ++ back)) e i)))
        (λ r. r)
        (onto z (subst (λ l. IsIn z l) (sym h.2) (⊎_elim (λ f. in_left z front (x ∷ back) f) (λ b. in_right z front (x ∷ back) (inr b)) (in_cases z front back i)))) in
        subst (IsPermutation (x ∷ xs)) (sym h.2)
        (IsPermutation-trans _ _ _
        (IsPermutation-cons x _ _ (next (front ++ back) less inside outside))
        (IsPermutation-sym _ _ (IsPermutation-middle front x back)))

pub each_once : (s : Setting) → Valid s → IsPermutation s.ids (order s)
each_once s v = same_once s.ids (order s) v.once (order_once s v) (λ x i. in_order s v x i) (λ x i. order_in s x i)
