-- Rows with distinct keys, loaded into a table one after another.
use Rattle.std.proofs.Common.{◌≡◌, ℕ, List, [], ◌∷◌, map, Bool, true, false, cond, Option, Some, None, refl, ap, subst, ◌∙◌}
use Rattle.std.specs.Prelude.{option_map}
use Rattle.std.specs.Option.{option_or}
use Rattle.std.specs.List.{AllByRecursion}
use Rattle.std.specs.Map.{lookup}
use Rattle.std.proofs.lemmas.Map.Keys.{IsDistinct-head, IsDistinct-tail}
use Rattle.deneva_base.specs.Keys.{key_eq}
use Rattle.deneva_base.specs.declared.keys.Key.{Key}
use Rattle.deneva_base.specs.declared.rows.Keyed.{Keyed}
use Rattle.deneva_base.proofs.KeyOrder.{key_eq_equivalence}
use Rattle.row_store.specs.Stores.{version_at, loaded, HaveDistinctKeys}
use Rattle.deneva_base.specs.Rows.{row_of}
use Rattle.row_store.specs.declared.versions.Version.{Version}
use Rattle.row_store.proofs.Tables.{same_key, same_key-key_eq, same_as, get_key, seen}

-- what is left to load, and else what the table has, is what the rows have, at each key
abbrev pub IsLoading : List Keyed → List Keyed → List (Key × Version) → Type 0
IsLoading all left es =
    HaveDistinctKeys left × ((key : Key) → option_or (option_map loaded (row_of left key)) (lookup (same_key key) es) ≡ option_map loaded (row_of all key))

or_none : {X : Type 0} (o : Option X) → option_or o None ≡ o
or_none None = refl
or_none (Some x) = refl

pub loads_none : (all : List Keyed) (es : List (Key × Version)) → HaveDistinctKeys all → es ≡ [] → IsLoading all all es
loads_none all es apart empty = (apart, λ key. rw empty (or_none (option_map loaded (row_of all key))))

-- a key that each row is apart from has no row
no_row : (key : Key) (rows : List Keyed) → AllByRecursion (λ k. key_eq key k ≡ false) (map (λ r. r.key) rows) → row_of rows key ≡ None
no_row key [] h = refl
no_row key (r ∷ rows) h = rw (key_eq_equivalence.symm r.key key, h.0) (no_row key rows h.1)

-- the row moves from the front of what is left into the table
moved : (r : Keyed) (left : List Keyed) (b : Bool) (key : Key) (before after : Option Version) → (b ≡ true → row_of left key ≡ None)
    → after ≡ cond b (Some (loaded r.row)) before
    → option_or (option_map loaded (row_of left key)) after ≡ option_or (option_map loaded (cond b (Some r.row) (row_of left key))) before
moved r left true key before after none is = rw (none refl, is) refl
moved r left false key before after none is = rw is refl

pub loads_more : (all left : List Keyed) (r : Keyed) (es fs : List (Key × Version)) → IsLoading all (r ∷ left) es
    → ((key : Key) → lookup (same_key key) fs ≡ cond (same_key r.key key) (Some (loaded r.row)) (lookup (same_key key) es)) → IsLoading all left fs
loads_more all left r es fs h more =
    let apart = IsDistinct-tail key_eq r.key (map (λ s. s.key) left) h.0 in
    let none : (key : Key) → key_eq r.key key ≡ true → row_of left key ≡ None = λ key same.
    subst (λ k. row_of left k ≡ None) (same_as r.key key same) (no_row r.key left (IsDistinct-head key_eq r.key (map (λ s. s.key) left) h.0)) in (
      apart,
      λ key. moved r left (key_eq r.key key) key (lookup (same_key key) es) (lookup (same_key key) fs) (none key)
          (more key ∙ ap (λ b. cond b (Some (loaded r.row)) (lookup (same_key key) es)) (same_key-key_eq r.key key)) ∙ h.1 key,
    )

-- at the end the table has all
pub loads_all : (all : List Keyed) (es : List (Key × Version)) (room : ℕ) → IsLoading all [] es → (key : Key) → version_at (seen es room) key ≡ option_map loaded (row_of all key)
loads_all all es room h key = get_key es key ∙ h.1 key
