-- The entries of a table as rows, and those rows sorted by their keys.
use Rattle.std.proofs.Common.{◌≡◌, List, [], ◌∷◌, ◌++◌, map, Bool, true, false, cond, Option, Some, refl, sym, ap, subst, ◌∙◌}
use Rattle.std.specs.Prelude.{option_map}
use Rattle.std.specs.List.{IsDistinct}
use Rattle.std.specs.Map.{lookup, keys_of}
use Rattle.std.proofs.lemmas.List.{append_assoc}
use Rattle.deneva_base.specs.Keys.{key_eq}
use Rattle.deneva_base.specs.declared.keys.Key.{Key}
use Rattle.deneva_base.specs.declared.rows.Keyed.{Keyed}
use Rattle.deneva_base.specs.declared.rows.Cell.{Cell}
use Rattle.deneva_base.proofs.KeyOrder.{key_eq_equivalence}
use Rattle.row_store.specs.Stores.{HaveDistinctKeys}
use Rattle.deneva_base.specs.Rows.{row_of}
use Rattle.row_store.specs.declared.versions.Version.{Version}
use Rattle.row_store.proofs.Tables.{same_key, same_key-key_eq}

-- an entry as a row with its key
abbrev pub row_at_entry : Key × Version → Keyed
row_at_entry e = record { key = e.0; row = e.1.row }

-- the rows of a table
abbrev pub rows_of : List (Key × Version) → List Keyed
rows_of es = map row_at_entry es

-- the table's rows have what it has
pub row_of-rows_of : (es : List (Key × Version)) (key : Key) → row_of (rows_of es) key ≡ option_map (λ v. v.row) (lookup (same_key key) es)
row_of-rows_of [] key = refl
row_of-rows_of (e ∷ es) key = step (key_eq e.0 key) (same_key key e.0) e.1 _ _ (key_eq_equivalence.symm e.0 key ∙ sym (same_key-key_eq key e.0)) (row_of-rows_of es key)
  where
    step : (b c : Bool) (v : Version) (rest : Option (List Cell)) (found : Option Version) → b ≡ c → rest ≡ option_map (λ v. v.row) found
        → cond b (Some v.row) rest ≡ option_map (λ v. v.row) (cond c (Some v) found)
    step true c v rest found e h = rw (sym e) refl
    step false c v rest found e h = rw (sym e, h) refl

-- the table's keys are apart, and so are those of its rows
pub distinct_rows_of : (es : List (Key × Version)) → IsDistinct same_key (keys_of es) → HaveDistinctKeys (rows_of es)
distinct_rows_of es h = subst (λ ks. IsDistinct key_eq ks) (keys es) (subst (λ (e : Key → Key → Bool). IsDistinct e (keys_of es)) (λ i k q. same_key-key_eq k q i) h)
  where
    keys : (es : List (Key × Version)) → keys_of es ≡ map (λ r. r.key) (rows_of es)
    keys [] = refl
    keys (e ∷ es) = ap (λ (ks : List Key). e.0 ∷ ks) (keys es)

-- the next entry goes from what is left to the rows
pub rows_more : (done new : List Keyed) (left rest : List (Key × Version)) (e : Key × Version) (row : List Cell) (all : List Keyed)
    → left ≡ e ∷ rest → row ≡ e.1.row → new ≡ done ++ record { key = e.0; row = row } ∷ [] → done ++ rows_of left ≡ all → new ++ rows_of rest ≡ all
rows_more done new left rest e row all next copied pushed h =
    rw (pushed, copied) (append_assoc done (row_at_entry e ∷ []) (rows_of rest) ∙ ap (λ (l : List (Key × Version)). done ++ rows_of l) (sym next) ∙ h)
