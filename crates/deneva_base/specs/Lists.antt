-- Membership, the greatest and least of a list by a measure, and sorted lists.
use Rattle.std.specs.Prelude.{◌≡◌, ◌⊎◌, ℕ, ◌^◌, max, min, List, [], ◌∷◌, Bool, if◌then◌else◌}

-- x is an element of the list
abbrev pub IsIn : {A : Type 0} → A → List A → Type 0
IsIn x [] = ⊥
IsIn x (y ∷ ys) = (x ≡ y) ⊎ IsIn x ys

-- the greatest measure, and 0 without an element
abbrev pub greatest_by : {A : Type 0} → (A → ℕ) → List A → ℕ
greatest_by f [] = 0
greatest_by f (x ∷ xs) = max (f x) (greatest_by f xs)

-- the least measure, and 2^63 without an element
abbrev pub least_by : {A : Type 0} → (A → ℕ) → List A → ℕ
least_by f [] = 2 ^ 63
least_by f (x ∷ xs) = min (f x) (least_by f xs)

-- the list in the order of a test, which says whether one stands before another
abbrev pub insert : {A : Type 0} → (A → A → Bool) → A → List A → List A
insert before a [] = a ∷ []
insert before a (b ∷ bs) = if before b a then b ∷ insert before a bs else a ∷ b ∷ bs

abbrev pub sort : {A : Type 0} → (A → A → Bool) → List A → List A
sort before [] = []
sort before (a ∷ more) = insert before a (sort before more)
