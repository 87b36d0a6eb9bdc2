-- Numbers in rising order: which are among them, and that such lists are the same where their elements are.
use Rattle.std.proofs.Common.{◌≡◌, ◌⊎◌, List, [], ◌∷◌, map, refl, sym, ap, ◌∙◌, Less, Equal, Greater, subst, inl, inr, ⊎_elim, arith}
use Rattle.std.specs.Ordering.{is_lt, match_ordering}
use Rattle.std.specs.BTreeSet.{insert_key}
use Rattle.std.specs.declared.cmp.Ordering.{Ordering}
use Rattle.std.proofs.lemmas.Bool.Decides.{nat_tests}
use Rattle.deneva_base.specs.Keys.{NumberLt, number_cmp}
use Rattle.deneva_base.specs.Lists.{IsIn}
use Rattle.deneva_base.specs.declared.numbers.Number.{Number}
use Rattle.deneva_base.specs.declared.numbers.TxnId.{TxnId}
use Rattle.deneva_base.proofs.Membership.{in_map, number_decides}
use Rattle.server_core.specs.CalvinSerial.{RisingIds}
use Rattle.server_core.specs.GlobalOrder.{number}
use Rattle.server_core.specs.Setting.{Setting}
use Rattle.calvin_sched.specs.Freed.{put_numbers, RisingNumbers}

number_same : (m n : Number) → m.n ≡ n.n → m.id.0 ≡ n.id.0 → m ≡ n
number_same m n e f = λ i. record { n = e i; id = record { 0 = f i } }

-- Equal only for the same number
equal_same : (m n : Number) → number_cmp m n ≡ Equal → m ≡ n
equal_same m n e = grind (arith, nat_tests, number_same m n)

less_below : (m n : Number) → number_cmp m n ≡ Less → NumberLt m n
less_below m n e = (number_decides m n).0 (ap is_lt e)

greater_above : (m n : Number) → number_cmp m n ≡ Greater → NumberLt n m
greater_above m n e = grind (arith, nat_tests)

below_below : (a b c : Number) → NumberLt a b → NumberLt b c → NumberLt a c
below_below a b c e f =
    ⊎_elim
    (λ x. ⊎_elim (λ y. inl (omega (arith, x, y))) (λ y. inl (omega (arith, x, y.0))) f)
    (λ x. ⊎_elim (λ y. inl (omega (arith, x.0, y))) (λ y. inr (omega (arith, x.0, y.0), omega (arith, x.1, y.1))) f)
    e

not_below : (a b : Number) → NumberLt a b → NumberLt b a → ⊥
not_below a b e f =
    ⊎_elim
    (λ x. ⊎_elim (λ y. omega (arith, x, y)) (λ y. omega (arith, x, y.0)) f)
    (λ x. ⊎_elim (λ y. omega (arith, x.0, y)) (λ y. omega (arith, x.1, y.1)) f)
    e

-- a number among numbers with one more

insert_cases : (n m : Number) (ns : List Number) → IsIn n (insert_key number_cmp ns m) → IsIn n ns ⊎ (n ≡ m)
insert_cases n m [] i = ⊎_elim (λ e. inr e) (λ a. absurd a) i
insert_cases n m (x ∷ xs) i = go (number_cmp m x) (λ r. insert_cases n m xs r) i
  where
    go : (o : Ordering) → (IsIn n (insert_key number_cmp xs m) → IsIn n xs ⊎ (n ≡ m)) → IsIn n (match_ordering o (m ∷ x ∷ xs) (x ∷ xs) (x ∷ insert_key number_cmp xs m)) → IsIn n (x ∷ xs) ⊎ (n ≡ m)
    go Less next j = ⊎_elim (λ e. inr e) (λ r. inl r) j
    go Equal next j = inl j
    go Greater next j = ⊎_elim (λ e. inl (inl e)) (λ r. ⊎_elim (λ a. inl (inr a)) (λ b. inr b) (next r)) j

in_insert_old : (n m : Number) (ns : List Number) → IsIn n ns → IsIn n (insert_key number_cmp ns m)
in_insert_old n m [] i = absurd i
in_insert_old n m (x ∷ xs) i = go (number_cmp m x) (λ r. in_insert_old n m xs r)
  where
    go : (o : Ordering) → (IsIn n xs → IsIn n (insert_key number_cmp xs m)) → IsIn n (match_ordering o (m ∷ x ∷ xs) (x ∷ xs) (x ∷ insert_key number_cmp xs m))
    go Less next = inr i
    go Equal next = i
    go Greater next = ⊎_elim (λ e. inl e) (λ r. inr (next r)) i

in_insert_new : (m : Number) (ns : List Number) → IsIn m (insert_key number_cmp ns m)
in_insert_new m [] = inl refl
in_insert_new m (x ∷ xs) = go (number_cmp m x) refl (in_insert_new m xs)
  where
    go : (o : Ordering) → number_cmp m x ≡ o → IsIn m (insert_key number_cmp xs m) → IsIn m (match_ordering o (m ∷ x ∷ xs) (x ∷ xs) (x ∷ insert_key number_cmp xs m))
    go Less e next = inl refl
    go Equal e next = inl (equal_same m x e)
    go Greater e next = inr next

-- a number among those that are put is one of them, or was there
pub put_cases : (n : Number) (ns more : List Number) → IsIn n (put_numbers ns more) → IsIn n ns ⊎ IsIn n more
put_cases n ns [] i = inl i
put_cases n ns (m ∷ more) i =
    ⊎_elim
    (λ a. ⊎_elim (λ o. inl o) (λ e. inr (inl e)) (insert_cases n m ns a))
    (λ b. inr (inr b))
    (put_cases n (insert_key number_cmp ns m) more i)

pub in_put_old : (n : Number) (ns more : List Number) → IsIn n ns → IsIn n (put_numbers ns more)
in_put_old n ns [] i = i
in_put_old n ns (m ∷ more) i = in_put_old n (insert_key number_cmp ns m) more (in_insert_old n m ns i)

pub in_put_new : (n : Number) (ns more : List Number) → IsIn n more → IsIn n (put_numbers ns more)
in_put_new n ns [] i = absurd i
in_put_new n ns (m ∷ more) i =
    ⊎_elim
    (λ (is : n ≡ m). in_put_old n (insert_key number_cmp ns m) more (subst (λ k. IsIn k (insert_key number_cmp ns m)) (sym is) (in_insert_new m ns)))
    (λ r. in_put_new n (insert_key number_cmp ns m) more r)
    i

-- they rise

insert_rising : (m : Number) (ns : List Number) → RisingNumbers ns → RisingNumbers (insert_key number_cmp ns m)
insert_rising m [] r = ((λ k i. absurd i), r)
insert_rising m (x ∷ xs) r = go (number_cmp m x) refl (insert_rising m xs r.1)
  where
    go : (o : Ordering) → number_cmp m x ≡ o → RisingNumbers (insert_key number_cmp xs m) → RisingNumbers (match_ordering o (m ∷ x ∷ xs) (x ∷ xs) (x ∷ insert_key number_cmp xs m))
    go Less e next =
        let l = less_below m x e in
        ((λ k i. ⊎_elim (λ (is : k ≡ x). subst (NumberLt m) (sym is) l) (λ j. below_below m x k l (r.0 k j)) i), r)
    go Equal e next = r
    go Greater e next =
        ((λ k i. ⊎_elim (λ j. r.0 k j) (λ (is : k ≡ m). subst (NumberLt x) (sym is) (greater_above m x e)) (insert_cases k m xs i)), next)

pub put_rising : (ns more : List Number) → RisingNumbers ns → RisingNumbers (put_numbers ns more)
put_rising ns [] r = r
put_rising ns (m ∷ more) r = put_rising (insert_key number_cmp ns m) more (insert_rising m ns r)

-- numbers in rising order, whatever is put
pub rising_numbers : (more : List Number) → RisingNumbers (put_numbers [] more)
rising_numbers more = put_rising [] more tt

module _ (s : Setting) where
  pub rising_ids : (xs : List TxnId) → RisingNumbers (map (number s) xs) → RisingIds s xs
  rising_ids [] r = tt
  rising_ids (x ∷ xs) r = ((λ y i. r.0 (number s y) (in_map (number s) y xs i)), rising_ids xs r.1)

  -- transactions in rising order of number are the same where each is in both lists
  pub rising_same : (xs ys : List TxnId) → RisingIds s xs → RisingIds s ys → ((x : TxnId) → IsIn x xs → IsIn x ys) → ((y : TxnId) → IsIn y ys → IsIn y xs) → xs ≡ ys
  rising_same [] [] r q f g = refl
  rising_same [] (y ∷ ys) r q f g = absurd (g y (inl refl))
  rising_same (x ∷ xs) [] r q f g = absurd (f x (inl refl))
  rising_same (x ∷ xs) (y ∷ ys) r q f g =
      let is : x ≡ y =
      ⊎_elim
      (λ (e : x ≡ y). e)
      (λ i. ⊎_elim (λ (e : y ≡ x). sym e) (λ j. absurd (not_below (number s x) (number s y) (r.0 y j) (q.0 x i))) (g y (inl refl)))
      (f x (inl refl)) in
      let itself : (z : TxnId) → z ≡ x → NumberLt (number s x) (number s z) → ⊥ =
      λ z e l. let k = subst (λ (w : TxnId). NumberLt (number s x) (number s w)) e l in not_below (number s x) (number s x) k k in
      let more : xs ≡ ys =
      rising_same xs ys r.1 q.1
      (λ z i. ⊎_elim (λ (e : z ≡ y). absurd (itself z (e ∙ sym is) (r.0 z i))) (λ j. j) (f z (inr i)))
      (λ z i. ⊎_elim (λ (e : z ≡ x). absurd (itself z e (subst (λ (w : TxnId). NumberLt (number s w) (number s z)) (sym is) (q.0 z i)))) (λ j. j) (g z (inr i))) in
      cc
