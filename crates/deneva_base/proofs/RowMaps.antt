-- Rows whose keys strictly rise: what a look-up by halves finds among them, and that each key is below the later ones.
use Rattle.std.proofs.Common.{◌≡◌, ℕ, zero, suc, ◌+◌, List, [], ◌∷◌, true, false, length, get_or, is_ok, Ok, Err, Result, refl, sym, ap, subst, ◌∙◌, inl, inr, arith}
use Rattle.std.specs.List.{list_all}
use Rattle.std.specs.List.Sorted.{IsSearchInRange, IsBinarySearchResult, IsSortedBy}
use Rattle.std.specs.Ordering.{is_lt, ordering_reverse}
use Rattle.std.proofs.lemmas.Bool.{and_parts, and_from, cases_lt}
use Rattle.std.proofs.lemmas.List.Folds.{list_any_at, list_any_none}
use Rattle.std.proofs.lemmas.List.Sorted.{searchable_from_sorted}
use Rattle.deneva_base.specs.Keys.{key_eq, key_cmp}
use Rattle.deneva_base.specs.Rising.{keys_rise, rise_after}
use Rattle.deneva_base.specs.Rows.{has_key}
use Rattle.deneva_base.specs.declared.keys.Key.{Key}
use Rattle.deneva_base.specs.declared.rows.Keyed.{Keyed}
use Rattle.deneva_base.proofs.KeyOrder.{less, key_cmp_total, key_eq-at_Equal, key_eq-at_Less, key_eq-at_Greater}

-- a key is not below one that is above it
not_back : (k q : Key) → is_lt (key_cmp k q) ≡ true → is_lt (key_cmp q k) ≡ false
not_back k q e = ap is_lt (key_cmp_total.antisymm q k ∙ ap ordering_reverse (less (key_cmp k q) e))

below_more : (k q p : Key) → is_lt (key_cmp k q) ≡ true → is_lt (key_cmp q p) ≡ true → is_lt (key_cmp k p) ≡ true
below_more k q p e f = ap is_lt (key_cmp_total.trans k q p (less (key_cmp k q) e) (less (key_cmp q p) f))

-- a key below the first row of those that rise is below each
pub below_all : (key : Key) (rows : List Keyed) → rise_after key rows ≡ true → list_all (λ r. is_lt (key_cmp key r.key)) rows ≡ true
below_all key [] h = refl
below_all key (r ∷ rows) h = and_from _ _ (and_parts _ _ h).0 (below_all key rows (after key r rows (and_parts _ _ h).0 (and_parts _ _ h).1))
  where
    after : (key : Key) (r : Keyed) (rows : List Keyed) → is_lt (key_cmp key r.key) ≡ true → rise_after r.key rows ≡ true → rise_after key rows ≡ true
    after key r [] e h = refl
    after key r (s ∷ rows) e h = and_from _ _ (below_more key r.key s.key e (and_parts _ _ h).0) (and_parts _ _ h).1

-- rows that rise still do without the first
pub keys_rise-tail : (r : Keyed) (rows : List Keyed) → keys_rise (r ∷ rows) ≡ true → keys_rise rows ≡ true
keys_rise-tail r [] h = refl
keys_rise-tail r (s ∷ rows) h = (and_parts _ _ h).1

-- rows that rise are sorted, in std's word
pub sorted_from_rising : (rows : List Keyed) → keys_rise rows ≡ true → IsSortedBy (λ r s. is_lt (key_cmp r.key s.key)) rows
sorted_from_rising [] h k d low high = absurd (omega arith)
sorted_from_rising (r ∷ []) h k d low high = absurd (omega arith)
sorted_from_rising (r ∷ s ∷ rows) h zero d low high = not_back r.key s.key (and_parts _ _ h).0
sorted_from_rising (r ∷ s ∷ rows) h (suc k) d low high =
    subst (λ (j : ℕ). is_lt (key_cmp (get_or (r ∷ s ∷ rows) j d).key (get_or (s ∷ rows) k d).key) ≡ false) {x = suc (k + 1)} (omega arith)
    (sorted_from_rising (s ∷ rows) (and_parts _ _ h).1 k d (omega arith) (omega arith))

-- so a binary search for a key finds whether some row has it
pub searched : (rows : List Keyed) (key : Key) (r : Result ℕ ℕ) → keys_rise rows ≡ true → IsSearchInRange r (length rows) → IsBinarySearchResult (λ x. key_cmp x.key key) rows r → is_ok r ≡ has_key rows key
searched [] key (Ok at) rise in_range equal = absurd (omega arith)
searched (r ∷ rows) key (Ok at) rise in_range equal = sym (list_any_at (λ x. key_eq x.key key) (r ∷ rows) at r in_range (key_eq-at_Equal _ key (equal r)))
searched rows key (Err at) rise in_range parted =
    let sides = parted (searchable_from_sorted key_cmp_total (λ (x : Keyed). x.key) rows key (sorted_from_rising rows rise)) in
    sym (list_any_none (λ x. key_eq x.key key) rows (λ k d within. elim (cases_lt k at) [
      | inl before ↦ key_eq-at_Less _ key (sides.0 k d (omega arith) before)
      | inr from ↦ key_eq-at_Greater _ key (sides.1 k d from within)
    ]))
