-- Maps and filters of lists.
use Rattle.std.proofs.Common.{◌≡◌, ℕ, max, ◌<◌, ◌≤◌, List, [], ◌∷◌, map, filter, length, arith, Bool, true, false, true≢false, not, ◌||◌, cond, refl, sym, ap, ap₂, inl, inr}
use Rattle.std.specs.List.{list_any}
use Rattle.std.specs.declared.result.Result.{Result}
use Rattle.std.specs.declared.result.Result.TheVariants.{Ok, Err}
use Rattle.std.specs.Prelude.{OnErr}
use Rattle.deneva_base.specs.Lists.{IsIn, greatest_by}

pub map_same : {A B : Type 0} (f g : A → B) (xs : List A) → ((x : A) → IsIn x xs → f x ≡ g x) → map f xs ≡ map g xs
map_same f g [] e = refl
map_same f g (x ∷ xs) e = ap₂ (λ y ys. y ∷ ys) (e x (inl refl)) (map_same f g xs (λ y i. e y (inr i)))

pub map_both : {A B C : Type 0} (g : B → C) (f : A → B) (h : A → C) (xs : List A) → ((x : A) → IsIn x xs → g (f x) ≡ h x) → map g (map f xs) ≡ map h xs
map_both g f h [] e = refl
map_both g f h (x ∷ xs) e = ap₂ (λ y ys. y ∷ ys) (e x (inl refl)) (map_both g f h xs (λ y i. e y (inr i)))

pub greatest_same : {A : Type 0} (f g : A → ℕ) (xs : List A) → ((x : A) → IsIn x xs → f x ≡ g x) → greatest_by f xs ≡ greatest_by g xs
greatest_same f g [] e = refl
greatest_same f g (x ∷ xs) e = ap₂ (λ m n. max m n) (e x (inl refl)) (greatest_same f g xs (λ y i. e y (inr i)))

pub filter_same : {A : Type 0} (p q : A → Bool) (xs : List A) → ((x : A) → IsIn x xs → p x ≡ q x) → filter p xs ≡ filter q xs
filter_same p q [] e = refl
filter_same p q (x ∷ xs) e = ap₂ (λ b ys. cond b (x ∷ ys) ys) (e x (inl refl)) (filter_same p q xs (λ y i. e y (inr i)))

-- a filter of mapped elements
pub filter_map : {A B : Type 0} (f : A → B) (p : B → Bool) (q : A → Bool) (xs : List A) → ((x : A) → p (f x) ≡ q x) → filter p (map f xs) ≡ map f (filter q xs)
filter_map f p q [] e = refl
filter_map f p q (x ∷ xs) e = go (q x) (e x) (filter_map f p q xs e)
  where
    go : (b : Bool) → p (f x) ≡ b → filter p (map f xs) ≡ map f (filter q xs) → cond (p (f x)) (f x ∷ filter p (map f xs)) (filter p (map f xs)) ≡ map f (cond b (x ∷ filter q xs) (filter q xs))
    go true t rest = rw t (ap (λ ys. f x ∷ ys) rest)
    go false t rest = rw t rest

pub filter_all : {A : Type 0} (p : A → Bool) (xs : List A) → ((x : A) → IsIn x xs → p x ≡ true) → filter p xs ≡ xs
filter_all p [] e = refl
filter_all p (x ∷ xs) e = rw (e x (inl refl)) (ap (λ ys. x ∷ ys) (filter_all p xs (λ y i. e y (inr i))))

-- one that is taken out is one less
pub fewer : {A : Type 0} (p : A → Bool) (xs : List A) → length (filter (λ x. not (p x)) xs) ≤ length xs
fewer p [] = omega arith
fewer p (x ∷ xs) = go (p x) (fewer p xs)
  where
    go : (b : Bool) → length (filter (λ y. not (p y)) xs) ≤ length xs → length (cond (not b) (x ∷ filter (λ y. not (p y)) xs) (filter (λ y. not (p y)) xs)) ≤ length (x ∷ xs)
    go true l = omega (arith, l)
    go false l = omega (arith, l)

pub one_less : {A : Type 0} (p : A → Bool) (xs : List A) → list_any p xs ≡ true → length (filter (λ x. not (p x)) xs) < length xs
one_less p [] e = absurd (true≢false (sym e))
one_less p (x ∷ xs) e = go (p x) refl e (one_less p xs)
  where
    go : (b : Bool) → p x ≡ b → (b || list_any p xs) ≡ true → (list_any p xs ≡ true → length (filter (λ y. not (p y)) xs) < length xs) → length (cond (not b) (x ∷ filter (λ y. not (p y)) xs) (filter (λ y. not (p y)) xs)) < length (x ∷ xs)
    go true t f rest = let l = fewer p xs in omega (arith, l)
    go false t f rest = let l = rest f in omega (arith, l)

pub err_gives : {X Y : Type 0} (r : Result X Y) {Q : Type 0} → Q → OnErr r Q
err_gives (Ok x) q = tt
err_gives (Err e) q = q
