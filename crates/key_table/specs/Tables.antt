-- A table as the value that it has at each key.
use Rattle.std.specs.Prelude.{◌≡◌, ◌≢◌, ◌⊎◌, Bool, true, false, List, [], ◌∷◌, Option, Some, None, if◌then◌else◌}
use Rattle.std.specs.Map.{lookup}
use Rattle.key_table.specs.declared.table.Table.{Table}

-- the value, or the empty one
abbrev pub or_empty : {X : Type 0} → X → Option X → X
or_empty e None = e
or_empty e (Some x) = x

-- the test of two keys tells whether they are one
abbrev pub Tells : {K : Type 0} → (K → K → Bool) → Type 0
Tells {K} eq = (a b : K) → ((eq a b ≡ true) × (a ≡ b)) ⊎ ((eq a b ≡ false) × (a ≢ b))

module _ {K X : Type 0} (eq : K → K → Bool) (e : X) where
  -- the value at a key
  abbrev pub at : Table K X → K → X
  at t key = or_empty e (lookup (eq key) t.values.entries)

  -- new has at the key what is said, and at every other key what old has
  abbrev pub Sets : Table K X → K → X → Table K X → Type 0
  Sets old key x new = (other : K) → at new other ≡ (if eq key other then x else at old other)

  -- new has at each key what old has
  abbrev pub Same : Table K X → Table K X → Type 0
  Same old new = (key : K) → at new key ≡ at old key

module _ {K X A : Type 0} (eq : K → K → Bool) (key : A → K) (change : A → X → X) where
  -- the value at a key after each of these, one after the other, changed the value at its own key
  abbrev pub changed : List A → K → X → X
  changed [] at x = x
  changed (a ∷ as') at x = changed as' at (if eq (key a) at then change a x else x)
