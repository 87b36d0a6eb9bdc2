-- A change at one key of a hash table, as what the tables have there.
use Rattle.std.proofs.Common.{◌≡◌, List, [], ◌∷◌, map, filter, Bool, true, false, not, ◌||◌, cond, Some, option_map, refl, ap, ⊎_elim, ◌∙◌, true≢false, sym}
use Rattle.std.specs.List.{list_any}
use Rattle.std.specs.Map.{lookup}
use Rattle.deneva_base.specs.declared.keys.Key.{Key}
use Rattle.key_table.proofs.Places.{same_tells}
use Rattle.chain_control.specs.declared.line.KeyVersions.{KeyVersions}
use Rattle.chain_control.specs.Chains.{chain_of}
use Rattle.key_table.specs.Keys.{same_key}
use Rattle.chain_control.specs.Tables.{no_one}

-- a table that has what it had
pub keep_chain : (es fs : List (Key × KeyVersions)) (key : Key) (new : KeyVersions) → Some (chain_of new) ≡ option_map chain_of (lookup (same_key key) es) → ((other : Key) → lookup (same_key other) fs ≡ cond (same_key key other) (Some new) (lookup (same_key other) es)) → (other : Key) → option_map chain_of (lookup (same_key other) fs) ≡ option_map chain_of (lookup (same_key other) es)
keep_chain es fs key new is h other =
    ap (option_map chain_of) (h other) ∙ ⊎_elim (λ t. rw t.0 (is ∙ ap (λ k. option_map chain_of (lookup (same_key k) es)) t.1)) (λ f. rw f.0 refl) (same_tells key other)

-- nobody passes the test where none of the list does
pub idle : {A B : Type 0} (p : A → Bool) (f : A → B) (xs : List A) → not (list_any p xs) ≡ no_one (map f (filter p xs))
idle p f [] = refl
idle p f (x ∷ xs) = go (p x) (idle p f xs)
  where
    go : (b : Bool) → not (list_any p xs) ≡ no_one (map f (filter p xs)) → not (b || list_any p xs) ≡ no_one (map f (cond b (x ∷ filter p xs) (filter p xs)))
    go true e = refl
    go false e = e

-- a list without elements
pub nil_from_none : {A : Type 0} (xs : List A) → no_one xs ≡ true → xs ≡ []
nil_from_none [] e = refl
nil_from_none (x ∷ xs) e = absurd (true≢false (sym e))

pub nil_from_map : {A B : Type 0} (f : A → B) (xs : List A) → map f xs ≡ [] → xs ≡ []
nil_from_map f [] e = refl
nil_from_map f (x ∷ xs) e = absurd (cc (e))
