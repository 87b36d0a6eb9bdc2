-- The same rows in another order, and sorted rows.
use Rattle.std.proofs.Common.{◌≡◌, ℕ, suc, ◌+◌, List, [], ◌∷◌, map, true, false, Option, Some, None, get_or, refl, sym, ap, subst, ◌∙◌, arith}
use Rattle.std.specs.List.{IsDistinct, AllByRecursion, list_all}
use Rattle.std.specs.List.Sorted.{IsPermutation, IsSortedBy}
use Rattle.std.specs.Map.{lookup, keys_of}
use Rattle.std.specs.Ordering.{is_lt, is_eq, ordering_reverse}
use Rattle.std.specs.declared.cmp.Ordering.{Ordering}
use Rattle.std.specs.declared.cmp.Ordering.TheVariants.{Less, Equal, Greater}
use Rattle.std.proofs.lemmas.Bool.{false≢true, and_from, and_parts}
use Rattle.std.proofs.lemmas.Map.Keys.{IsDistinct-head, IsDistinct-tail, IsDistinct-cons, IsDistinct-IsPermutation}
use Rattle.std.proofs.lemmas.Map.Views.{Contains-from_lookup, lookup-from_Contains}
use Rattle.std.proofs.lemmas.List.Sorted.{IsPermutation-map, IsPermutation-sym, Contains-permutation}
use Rattle.deneva_base.specs.Keys.{key_eq, key_cmp}
use Rattle.deneva_base.specs.Rising.{keys_rise, rise_after}
use Rattle.deneva_base.specs.Rows.{row_of}
use Rattle.deneva_base.specs.declared.keys.Key.{Key}
use Rattle.deneva_base.specs.declared.rows.Cell.{Cell}
use Rattle.deneva_base.specs.declared.rows.Keyed.{Keyed}
use Rattle.deneva_base.proofs.KeyOrder.{key_cmp_total, key_cmp-is_eq, key_eq_equivalence, Decides-key_eq, key_eq-below}
use Rattle.deneva_base.proofs.RowMaps.{below_all, keys_rise-tail}

-- no two rows have one key
abbrev HaveDistinctKeys : List Keyed → Type 0
HaveDistinctKeys rows = IsDistinct key_eq (map (λ r. r.key) rows)

-- a row as an entry
abbrev as_entry : Keyed → Key × List Cell
as_entry r = (r.key, r.row)

keys_of-as_entry : (rows : List Keyed) → keys_of (map as_entry rows) ≡ map (λ r. r.key) rows
keys_of-as_entry [] = refl
keys_of-as_entry (r ∷ rows) = ap (λ (ks : List Key). r.key ∷ ks) (keys_of-as_entry rows)

row_of-as_entry : (rows : List Keyed) (key : Key) → row_of rows key ≡ lookup (key_eq key) (map as_entry rows)
row_of-as_entry [] key = refl
row_of-as_entry (r ∷ rows) key = rw (key_eq_equivalence.symm r.key key, row_of-as_entry rows key) refl

-- the same entries in another order have the same at each key
lookup-permuted : {X : Type 0} (es fs : List (Key × X)) → IsPermutation es fs → IsDistinct key_eq (keys_of es) → IsDistinct key_eq (keys_of fs)
    → (key : Key) → lookup (key_eq key) fs ≡ lookup (key_eq key) es
lookup-permuted {X} es fs moves apart apart_fs key = go (lookup (key_eq key) fs) refl (lookup (key_eq key) es) refl
  where
    go : (a : Option X) → lookup (key_eq key) fs ≡ a → (b : Option X) → lookup (key_eq key) es ≡ b → a ≡ b
    go (Some v) in_fs b in_es =
        sym (lookup-from_Contains key_eq_equivalence key v es apart (Contains-permutation fs es (key, v) (IsPermutation-sym es fs moves) (Contains-from_lookup (λ k q. (Decides-key_eq k q).0) key v fs in_fs))) ∙ in_es
    go None in_fs (Some v) in_es =
        sym in_fs ∙ lookup-from_Contains key_eq_equivalence key v fs apart_fs (Contains-permutation es fs (key, v) moves (Contains-from_lookup (λ k q. (Decides-key_eq k q).0) key v es in_es))
    go None in_fs None in_es = refl

pub distinct-permuted : (rows sorted : List Keyed) → IsPermutation rows sorted → HaveDistinctKeys rows → HaveDistinctKeys sorted
distinct-permuted rows sorted moves apart = IsDistinct-IsPermutation key_eq key_eq_equivalence.symm _ _ (IsPermutation-map (λ r. r.key) rows sorted moves) apart

-- the same rows in another order have the same at each key
pub row_of-permuted : (rows sorted : List Keyed) → IsPermutation rows sorted → HaveDistinctKeys rows → (key : Key) → row_of sorted key ≡ row_of rows key
row_of-permuted rows sorted moves apart key =
    row_of-as_entry sorted key
    ∙ lookup-permuted (map as_entry rows) (map as_entry sorted) (IsPermutation-map as_entry rows sorted moves)
    (rw (keys_of-as_entry rows) apart) (rw (keys_of-as_entry sorted) (distinct-permuted rows sorted moves apart)) key
    ∙ sym (row_of-as_entry rows key)

-- sorted keys that are apart strictly rise
pub rise_from_sorted : (rows : List Keyed) → IsSortedBy (λ r s. is_lt (key_cmp r.key s.key)) rows → HaveDistinctKeys rows → keys_rise rows ≡ true
rise_from_sorted [] sorted apart = refl
rise_from_sorted (r ∷ rows) sorted apart = after r rows sorted apart
  where
    less : (o p : Ordering) → p ≡ ordering_reverse o → is_lt p ≡ false → is_eq o ≡ false → is_lt o ≡ true
    less Less p e f g = refl
    less Equal p e f g = absurd (false≢true (sym g))
    less Greater p e f g = absurd (false≢true (sym f ∙ ap is_lt e))

    after : (r : Keyed) (rows : List Keyed) → IsSortedBy (λ r s. is_lt (key_cmp r.key s.key)) (r ∷ rows) → HaveDistinctKeys (r ∷ rows) → rise_after r.key rows ≡ true
    after r [] sorted apart = refl
    after r (s ∷ rows) sorted apart = and_from _ _
        (less (key_cmp r.key s.key) (key_cmp s.key r.key) (key_cmp_total.antisymm s.key r.key) (sorted 0 r (omega arith) (omega arith))
        (key_cmp-is_eq r.key s.key ∙ (IsDistinct-head key_eq r.key (s.key ∷ map (λ q. q.key) rows) apart).0))
        (after s rows (λ k d low high. subst (λ (j : ℕ). is_lt (key_cmp (get_or (r ∷ s ∷ rows) j d).key (get_or (s ∷ rows) k d).key) ≡ false) {x = suc k + 1} {y = suc (k + 1)} (omega arith)
        (sorted (suc k) d (omega arith) (omega arith))) (IsDistinct-tail key_eq r.key (s.key ∷ map (λ q. q.key) rows) apart))

apart_from_below : (key : Key) (rows : List Keyed) → list_all (λ r. is_lt (key_cmp key r.key)) rows ≡ true → AllByRecursion (λ k. key_eq key k ≡ false) (map (λ r. r.key) rows)
apart_from_below key [] h = tt
apart_from_below key (r ∷ rows) h = (key_eq-below key r.key (and_parts _ _ h).0, apart_from_below key rows (and_parts _ _ h).1)

-- keys that strictly rise are distinct
pub distinct_from_rising : (rows : List Keyed) → keys_rise rows ≡ true → HaveDistinctKeys rows
unfolding IsDistinct
distinct_from_rising [] h = tt
distinct_from_rising (r ∷ rows) h = IsDistinct-cons key_eq r.key (map (λ q. q.key) rows) (apart_from_below r.key rows (below_all r.key rows h)) (distinct_from_rising rows (keys_rise-tail r rows h))
