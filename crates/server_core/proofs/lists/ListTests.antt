-- Membership and tests on lists.
use Rattle.std.proofs.Common.{◌≡◌, ◌≢◌, ◌⊎◌, ℕ, zero, suc, length, slice_get, Some, ◌<◌, List, [], ◌∷◌, ◌++◌, map, Bool, true, false, not, ◌||◌, eqb, refl, sym, ap, ◌∙◌, subst, inl, inr, ⊎_elim, arith, true≢false}
use Rattle.std.specs.List.{list_all, flat_map}
use Rattle.std.proofs.lemmas.Bool.Decides.{nat_tests, eqb_tells}
use Rattle.deneva_base.specs.declared.numbers.TxnId.{TxnId}
use Rattle.deneva_base.specs.Lists.{IsIn}
use Rattle.deneva_base.proofs.Membership.{in_left, in_right, in_cases, and_parts, and_true}
use Rattle.txn_program.specs.Transactions.{numbers_below}
use Rattle.server_core.specs.Setting.{take_first, drop_first}
use Rattle.deneva_base.specs.Keys.{id_eq}
use Rattle.server_core.specs.GlobalOrder.{has_id}

pub or_cases : (a b : Bool) → (a || b) ≡ true → (a ≡ true) ⊎ (b ≡ true)
or_cases true b e = inl refl
or_cases false b e = inr e

pub or_left : (a b : Bool) → a ≡ true → (a || b) ≡ true
or_left a b e = rw e refl

pub or_right : (a b : Bool) → b ≡ true → (a || b) ≡ true
or_right true b e = refl
or_right false b e = e

pub not_true : (a : Bool) → not a ≡ true → a ≡ false
not_true true e = absurd (true≢false (sym e))
not_true false e = refl

pub not_both : (a : Bool) → a ≡ true → a ≡ false → ⊥
not_both a e f = true≢false (sym e ∙ f)

pub is_or_not : (a : Bool) → (a ≡ true) ⊎ (a ≡ false)
is_or_not true = inl refl
is_or_not false = inr refl

pub same_number : (n : ℕ) → eqb n n ≡ true
same_number n = grind (arith, nat_tests)

pub id_same : (x y : TxnId) → x.0 ≡ y.0 → x ≡ y
id_same x y e = λ i. record { 0 = e i }

pub id_tells : (x y : TxnId) → ((id_eq x y ≡ true) × (x ≡ y)) ⊎ ((id_eq x y ≡ false) × (x ≢ y))
id_tells x y = ⊎_elim (λ t. inl (t.0, id_same x y t.1)) (λ t. inr (t.0, λ is. t.1 (ap (λ (z : TxnId). z.0) is))) (eqb_tells x.0 y.0)

pub id_self : (x : TxnId) → id_eq x x ≡ true
id_self x = same_number x.0

pub has_in : (x : TxnId) (xs : List TxnId) → has_id x xs ≡ true → IsIn x xs
has_in x [] e = absurd (true≢false (sym e))
has_in x (y ∷ ys) e = ⊎_elim (λ t. inl (sym t.1)) (λ t. inr (has_in x ys (subst (λ b. (b || has_id x ys) ≡ true) t.0 e))) (id_tells y x)

pub in_has : (x : TxnId) (xs : List TxnId) → IsIn x xs → has_id x xs ≡ true
in_has x [] i = absurd i
in_has x (y ∷ ys) i = ⊎_elim (λ is. or_left (id_eq y x) (has_id x ys) (subst (λ z. id_eq z x ≡ true) is (id_self x))) (λ r. or_right (id_eq y x) (has_id x ys) (in_has x ys r)) i

pub all_at : {A : Type 0} (p : A → Bool) (x : A) (xs : List A) → list_all p xs ≡ true → IsIn x xs → p x ≡ true
all_at p x [] e i = absurd i
all_at p x (y ∷ xs) e i =
    let b = and_parts (p y) (list_all p xs) e in
    ⊎_elim (λ (is : x ≡ y). subst (λ z. p z ≡ true) (sym is) b.0) (λ r. all_at p x xs b.1 r) i

pub all_from : {A : Type 0} (p : A → Bool) (xs : List A) → ((x : A) → IsIn x xs → p x ≡ true) → list_all p xs ≡ true
all_from p [] h = refl
all_from p (y ∷ xs) h = and_true (p y) (list_all p xs) (h y (inl refl)) (all_from p xs (λ x i. h x (inr i)))

pub in_flat : {A B : Type 0} (f : A → List B) (x : A) (y : B) (xs : List A) → IsIn x xs → IsIn y (f x) → IsIn y (flat_map f xs)
in_flat f x y [] i j = absurd i
in_flat f x y (z ∷ xs) i j =
    ⊎_elim
    (λ (is : x ≡ z). in_left y (f z) (flat_map f xs) (subst (λ a. IsIn y (f a)) is j))
    (λ r. in_right y (f z) (flat_map f xs) (in_flat f x y xs r j))
    i

pub flat_in : {A B : Type 0} (f : A → List B) (y : B) (xs : List A) → IsIn y (flat_map f xs) → (x : A) × IsIn x xs × IsIn y (f x)
flat_in f y [] i = absurd i
flat_in f y (z ∷ xs) i =
    ⊎_elim
    (λ a. (z, inl refl, a))
    (λ b. let n = flat_in f y xs b in (n.0, inr n.1, n.2))
    (in_cases y (f z) (flat_map f xs) i)

pub map_same : {A B : Type 0} (f g : A → B) (xs : List A) → ((x : A) → IsIn x xs → f x ≡ g x) → map f xs ≡ map g xs
map_same f g [] h = refl
map_same f g (x ∷ xs) h = rw (h x (inl refl), map_same f g xs (λ y i. h y (inr i))) refl

pub in_below : (k n : ℕ) → k < n → IsIn k (numbers_below n)
in_below k zero h = absurd (omega arith)
in_below k (suc n) h = ⊎_elim (λ t. in_right k (numbers_below n) (n ∷ []) (inl t.1)) (λ t. in_left k (numbers_below n) (n ∷ []) (in_below k n (less t.1))) (eqb_tells k n)
  where
    less : k ≢ n → k < n
    less ne = grind (arith, ne)

pub below_in : (k n : ℕ) → IsIn k (numbers_below n) → k < n
below_in k zero i = absurd i
below_in k (suc n) i = ⊎_elim (λ a. omega (arith, below_in k n a)) (λ b. ⊎_elim (λ (is : k ≡ n). omega (arith, is)) (λ n'. absurd n') b) (in_cases k (numbers_below n) (n ∷ []) i)

pub split_there : {A : Type 0} (k : ℕ) (xs : List A) (x : A) → slice_get xs k ≡ Some x → xs ≡ take_first k xs ++ x ∷ drop_first (suc k) xs
split_there k [] x e = absurd (none k e)
  where
    none : (k : ℕ) → slice_get [] k ≡ Some x → ⊥
    none zero e = cc (e)
    none (suc k) e = cc (e)
split_there zero (y ∷ xs) x e = let is : y ≡ x = cc in ap (λ z. z ∷ xs) is
split_there (suc k) (y ∷ xs) x e = ap (λ l. y ∷ l) (split_there k xs x e)

pub take_length : {A : Type 0} (k : ℕ) (xs : List A) (x : A) → slice_get xs k ≡ Some x → length (take_first k xs) ≡ k
take_length zero xs x e = refl
take_length (suc k) [] x e = absurd (cc (e))
take_length (suc k) (y ∷ xs) x e = ap suc (take_length k xs x e)

pub below_length : (n : ℕ) → length (numbers_below n) ≡ n
below_length zero = refl
below_length (suc n) = omega (arith, length_more (numbers_below n) n, below_length n)
  where
    length_more : (xs : List ℕ) (k : ℕ) → length (xs ++ k ∷ []) ≡ suc (length xs)
    length_more [] k = refl
    length_more (x ∷ xs) k = ap suc (length_more xs k)
