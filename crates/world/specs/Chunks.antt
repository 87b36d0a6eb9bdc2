-- A list that is kept in chunks.
use Rattle.std.specs.Prelude.{◌≡◌, ℕ, ◌+◌, ◌<◌, List, [], ◌∷◌, ◌++◌, length, take, slice_get, Some}

-- the items of all chunks, in their order
abbrev pub joined : {A : Type 0} → List (List A) → List A
joined [] = []
joined (c ∷ chunks) = c ++ joined chunks

-- the item at this index of all lies at this place of the chunk of this number
pub record LiesAt {A : Type 0} (chunks : List (List A)) (index chunk place : ℕ) : Type 0 where
  pub chunk_in : chunk < length chunks
  pub place_in : (c : List A) → slice_get chunks chunk ≡ Some c → place < length c
  pub index_is : length (joined (take chunk chunks)) + place ≡ index
