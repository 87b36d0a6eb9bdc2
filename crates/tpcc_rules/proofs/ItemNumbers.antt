-- Items whose numbers rise: what a look-up by halves finds among them, and that they have numbers of their own.
use Rattle.std.proofs.Common.{◌≡◌, ℕ, zero, suc, ◌+◌, ◌-◌, ◌<◌, ◌==◌, List, [], ◌∷◌, ◌++◌, Bool, true, false, not, ◌&&◌, ◌||◌, length, get_or, Ok, Err, Some, None, refl, sym, ap, subst, ◌∙◌, inl, inr, arith}
use Rattle.std.specs.Prelude.{nat_lt, slice_get}
use Rattle.std.specs.List.Sorted.{IsBinarySearchResult, IsSortedBy}
use Rattle.std.specs.Ordering.{nat_cmp, is_lt, is_eq}
use Rattle.std.proofs.lemmas.Bool.{and_parts, and_from, cases_lt, ltb-true, false≢true}
use Rattle.std.proofs.lemmas.Bool.Decides.{nat_tests}
use Rattle.std.proofs.lemmas.Cmp.{nat_cmp_total}
use Rattle.std.proofs.lemmas.List.Folds.{list_any_none}
use Rattle.std.proofs.lemmas.List.Sorted.{searchable_from_sorted}
use Rattle.std.proofs.lemmas.Option.{same_Some}
use Rattle.tpcc_rules.specs.Items.{have_own_numbers, has_item, item_numbered, numbers_rise, rise_after}
use Rattle.tpcc_rules.specs.declared.programs.Item.{Item}

numbers_eq : (x y : ℕ) → is_eq (nat_cmp x y) ≡ (x == y)
numbers_eq x y = grind (arith, nat_tests)

-- one more item at the end

abbrev last_from : ℕ → List Item → ℕ
last_from n [] = n
last_from n (i ∷ items) = last_from i.number items

regroup : (a b c : Bool) → (a && (b && c)) ≡ ((a && b) && c)
regroup true b c = refl
regroup false b c = refl

and_true : (b : Bool) → (b && true) ≡ b
and_true true = refl
and_true false = refl

rise_after-push : (n : ℕ) (items : List Item) (x : Item) → rise_after n (items ++ x ∷ []) ≡ (rise_after n items && nat_lt (last_from n items) x.number)
rise_after-push n [] x = and_true (nat_lt n x.number)
rise_after-push n (i ∷ items) x = ap (λ b. nat_lt n i.number && b) (rise_after-push i.number items x) ∙ regroup (nat_lt n i.number) _ _

last_is : (i : Item) (items : List Item) (last : Item) → slice_get (i ∷ items) (length items) ≡ Some last → last_from i.number items ≡ last.number
last_is i [] last e = ap (λ (q : Item). q.number) (same_Some i last e)
last_is i (q ∷ items) last e = last_is q items last e

pub numbers_rise-push : (items : List Item) (x last : Item) → Some last ≡ slice_get items (length items - 1) → (numbers_rise items && nat_lt last.number x.number) ≡ numbers_rise (items ++ x ∷ [])
numbers_rise-push [] x last e = absurd (cc (e))
numbers_rise-push (i ∷ items) x last e = rw (← last_is i items last (sym (subst (λ k. Some last ≡ slice_get (i ∷ items) k) (omega arith) e))) (sym (rise_after-push i.number items x))

pub falls_on : (items : List Item) (x : Item) → numbers_rise items ≡ false → false ≡ numbers_rise (items ++ x ∷ [])
falls_on [] x h = absurd (false≢true (sym h))
falls_on (i ∷ items) x h = sym (rise_after-push i.number items x ∙ ap (λ b. b && nat_lt (last_from i.number items) x.number) h)

-- a number below the first is below each

below : (n : ℕ) (items : List Item) (k : ℕ) (d : Item) → rise_after n items ≡ true → k < length items → n < (get_or items k d).number
below n [] k d h within = absurd (omega arith)
below n (i ∷ items) zero d h within = ltb-true n i.number (and_parts _ _ h).0
below n (i ∷ items) (suc k) d h within = let low = ltb-true n i.number (and_parts _ _ h).0 in let high = below i.number items k d (and_parts _ _ h).1 (omega arith) in omega (arith, low, high)

tail_rises : (i : Item) (items : List Item) → numbers_rise (i ∷ items) ≡ true → numbers_rise items ≡ true
tail_rises i [] h = refl
tail_rises i (q ∷ items) h = (and_parts _ _ h).1

not_eq : (x y : ℕ) → x < y → (x == y) ≡ false
not_eq x y less = grind (arith, nat_tests)

not_lower : (x y : ℕ) → x < y → is_lt (nat_cmp y x) ≡ false
not_lower x y less = grind (arith, nat_tests)

sorted : (items : List Item) → numbers_rise items ≡ true → IsSortedBy (λ i q. is_lt (nat_cmp i.number q.number)) items
sorted [] h k d low high = absurd (omega arith)
sorted (i ∷ items) h zero d low high = not_lower i.number (get_or items 0 d).number (below i.number items 0 d h (omega arith))
sorted (i ∷ items) h (suc k) d low high =
    subst (λ (j : ℕ). is_lt (nat_cmp (get_or (i ∷ items) j d).number (get_or items k d).number) ≡ false) {x = suc (k + 1)} (omega arith)
    (sorted items (tail_rises i items h) k d (omega arith) (omega arith))

-- the one item of a number is the first

found_at : (items : List Item) (at n : ℕ) (d : Item) → numbers_rise items ≡ true → at < length items → (get_or items at d).number ≡ n → item_numbered items n ≡ Some (get_or items at d)
found_at [] at n d h within e = absurd (omega arith)
found_at (i ∷ items) zero n d h within e = rw (eq_true i.number n e) refl
  where
    eq_true : (x y : ℕ) → x ≡ y → (x == y) ≡ true
    eq_true x y same = grind (arith, nat_tests)
found_at (i ∷ items) (suc at) n d h within e =
    rw (not_eq i.number n (let far = below i.number items at d h (omega arith) in omega (arith, far, e)))
    (found_at items at n d (tail_rises i items h) (omega arith) e)

or_none : (a b : Bool) → (a || b) ≡ false → (a ≡ false) × (b ≡ false)
or_none true b h = absurd (false≢true (sym h))
or_none false b h = (refl, h)

find_none : (n : ℕ) (items : List Item) → has_item items n ≡ false → item_numbered items n ≡ None
find_none n [] h = refl
find_none n (i ∷ items) h = rw (or_none (i.number == n) (has_item items n) h).0 (find_none n items (or_none (i.number == n) (has_item items n) h).1)

by_cmp : (x y : ℕ) → is_eq (nat_cmp x y) ≡ true → x ≡ y
by_cmp x y e = grind (arith, nat_tests)

pub found_by_halves : (items : List Item) (n at : ℕ) (d : Item) → numbers_rise items ≡ true → at < length items → IsBinarySearchResult (λ i. nat_cmp i.number n) items (Ok at) → Some (get_or items at d) ≡ item_numbered items n
found_by_halves items n at d h within equal = sym (found_at items at n d h within (by_cmp (get_or items at d).number n (ap is_eq (equal d))))

pub not_found_by_halves : (items : List Item) (n at : ℕ) → numbers_rise items ≡ true → IsBinarySearchResult (λ i. nat_cmp i.number n) items (Err at) → None ≡ item_numbered items n
not_found_by_halves items n at h parted =
    let sides = parted (searchable_from_sorted nat_cmp_total (λ (i : Item). i.number) items n (sorted items h)) in
    sym (find_none n items (list_any_none (λ i. i.number == n) items (λ k d within. elim (cases_lt k at) [
      | inl before ↦ sym (numbers_eq (get_or items k d).number n) ∙ ap is_eq (sides.0 k d (omega arith) before)
      | inr from ↦ sym (numbers_eq (get_or items k d).number n) ∙ ap is_eq (sides.1 k d from within)
    ])))

-- items whose numbers rise have numbers of their own

none_above : (n : ℕ) (items : List Item) → rise_after n items ≡ true → has_item items n ≡ false
none_above n items h = list_any_none (λ i. i.number == n) items (λ k d within. not_eq_back (get_or items k d).number n (below n items k d h within))
  where
    not_eq_back : (x y : ℕ) → y < x → (x == y) ≡ false
    not_eq_back x y less = grind (arith, nat_tests)

pub own_from_rising : (items : List Item) → numbers_rise items ≡ true → have_own_numbers items ≡ true
own_from_rising [] h = refl
own_from_rising (i ∷ items) h = and_from _ _ (ap not (none_above i.number items h)) (own_from_rising items (tail_rises i items h))
