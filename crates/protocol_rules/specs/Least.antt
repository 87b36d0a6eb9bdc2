-- The least of a list, and the greatest.
use Rattle.std.specs.Prelude.{◌≡◌, ℕ, ◌≤◌, List, [], ◌∷◌, Bool, false, if◌then◌else◌}

-- the least of a list that is not empty, by a test which says whether one is below another; of equal ones the first
abbrev pub least_of : {A : Type 0} → (A → A → Bool) → A → List A → A
least_of below x [] = x
least_of below x (y ∷ ys) = least_of below (if below y x then y else x) ys

-- it is one of those for which P holds, and none of them is below it
abbrev pub IsLeast : {A : Type 0} → (A → A → Bool) → (A → Type 0) → A → Type 0
IsLeast {A} below P x = P x × ((y : A) → P y → below y x ≡ false)

-- one of those for which P holds has this measure, and none has a greater
abbrev pub IsGreatest : {A : Type 0} → (A → ℕ) → (A → Type 0) → ℕ → Type 0
IsGreatest {A} f P n = ((x : A) × P x × (f x ≡ n)) × ((x : A) → P x → f x ≤ n)
