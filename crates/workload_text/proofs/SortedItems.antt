-- An item put among items whose numbers rise.
use Rattle.std.proofs.Common.{◌≡◌, ℕ, ◌+◌, ◌==◌, Bool, true, false, List, [], ◌∷◌, ◌++◌, length, refl, sym, ap, ◌∙◌, subst, arith, append-nil, append_assoc}
use Rattle.std.specs.Prelude.{nat_lt}
use Rattle.std.specs.List.{list_all, fold}
use Rattle.std.specs.Ordering.{nat_cmp, match_ordering}
use Rattle.std.specs.declared.cmp.Ordering.{Ordering}
use Rattle.std.specs.declared.cmp.Ordering.TheVariants.{Less, Equal, Greater}
use Rattle.std.proofs.lemmas.Bool.{and_parts, and_from, or_parts, true≢false, eq-eqb}
use Rattle.std.proofs.lemmas.Bool.Decides.{nat_tests}
use Rattle.tpcc_rules.specs.Items.{has_item, numbers_rise, rise_after}
use Rattle.tpcc_rules.specs.declared.programs.Item.{Item}
use Rattle.workload_text.specs.SortedItems.{put_item, by_number}

-- what a comparison of two numbers says

below_at : (n m : ℕ) → nat_cmp n m ≡ Less → nat_lt n m ≡ true
below_at n m e = grind (arith, nat_tests)

same_at : (n m : ℕ) → nat_cmp n m ≡ Equal → n ≡ m
same_at n m e = grind (arith, nat_tests)

above_at : (n m : ℕ) → nat_cmp n m ≡ Greater → nat_lt m n ≡ true
above_at n m e = grind (arith, nat_tests)

-- a test that each item passes, at the new item too
all_at : (P : Item → Bool) (o : Ordering) (i j : Item) (items rest : List Item) → P i ≡ true → list_all P (j ∷ items) ≡ true → list_all P rest ≡ true
    → list_all P (match_ordering o (i ∷ j ∷ items) (i ∷ items) (j ∷ rest)) ≡ true
all_at P Less i j items rest new h more = and_from _ _ new h
all_at P Equal i j items rest new h more = and_from _ _ new (and_parts _ _ h).1
all_at P Greater i j items rest new h more = and_from _ _ (and_parts _ _ h).0 more

pub list_all-put_item : (P : Item → Bool) (items : List Item) (i : Item) → P i ≡ true → list_all P items ≡ true → list_all P (put_item items i) ≡ true
list_all-put_item P [] i new h = and_from _ _ new refl
list_all-put_item P (j ∷ items) i new h =
    all_at P (nat_cmp i.number j.number) i j items (put_item items i) new h (list_all-put_item P items i new (and_parts _ _ h).1)

-- numbers that rise still do
rise_at : (o : Ordering) (n : ℕ) (i j : Item) (items rest : List Item) → nat_cmp i.number j.number ≡ o → nat_lt n i.number ≡ true → rise_after n (j ∷ items) ≡ true
    → (nat_lt j.number i.number ≡ true → rise_after j.number rest ≡ true)
    → rise_after n (match_ordering o (i ∷ j ∷ items) (i ∷ items) (j ∷ rest)) ≡ true
rise_at Less n i j items rest e below h more = and_from _ _ below (and_from _ _ (below_at i.number j.number e) (and_parts _ _ h).1)
rise_at Equal n i j items rest e below h more = and_from _ _ below (subst (λ (k : ℕ). rise_after k items ≡ true) (sym (same_at i.number j.number e)) (and_parts _ _ h).1)
rise_at Greater n i j items rest e below h more = and_from _ _ (and_parts _ _ h).0 (more (above_at i.number j.number e))

rise_after-put_item : (n : ℕ) (items : List Item) (i : Item) → nat_lt n i.number ≡ true → rise_after n items ≡ true → rise_after n (put_item items i) ≡ true
rise_after-put_item n [] i below h = and_from _ _ below refl
rise_after-put_item n (j ∷ items) i below h =
    rise_at (nat_cmp i.number j.number) n i j items (put_item items i) refl below h (λ later. rise_after-put_item j.number items i later (and_parts _ _ h).1)

first_at : (o : Ordering) (i j : Item) (items rest : List Item) → nat_cmp i.number j.number ≡ o → rise_after j.number items ≡ true
    → (nat_lt j.number i.number ≡ true → rise_after j.number rest ≡ true)
    → numbers_rise (match_ordering o (i ∷ j ∷ items) (i ∷ items) (j ∷ rest)) ≡ true
first_at Less i j items rest e h more = and_from _ _ (below_at i.number j.number e) h
first_at Equal i j items rest e h more = subst (λ (k : ℕ). rise_after k items ≡ true) (sym (same_at i.number j.number e)) h
first_at Greater i j items rest e h more = more (above_at i.number j.number e)

pub numbers_rise-put_item : (items : List Item) (i : Item) → numbers_rise items ≡ true → numbers_rise (put_item items i) ≡ true
numbers_rise-put_item [] i h = refl
numbers_rise-put_item (j ∷ items) i h =
    first_at (nat_cmp i.number j.number) i j items (put_item items i) refl h (λ later. rise_after-put_item j.number items i later h)

-- the item of a number that no item had is one more
length_at : (o : Ordering) (i j : Item) (items rest : List Item) → nat_cmp i.number j.number ≡ o → (j.number == i.number) ≡ false → length rest ≡ length items + 1
    → length (match_ordering o (i ∷ j ∷ items) (i ∷ items) (j ∷ rest)) ≡ length (j ∷ items) + 1
length_at Less i j items rest e new h = omega arith
length_at Equal i j items rest e new h = absurd (true≢false (sym (eq-eqb j.number i.number (sym (same_at i.number j.number e))) ∙ new))
length_at Greater i j items rest e new h = omega arith

pub length-put_item : (items : List Item) (i : Item) → has_item items i.number ≡ false → length (put_item items i) ≡ length items + 1
length-put_item [] i h = refl
length-put_item (j ∷ items) i h =
    length_at (nat_cmp i.number j.number) i j items (put_item items i) refl (or_parts _ _ h).0 (length-put_item items i (or_parts _ _ h).1)

-- items whose numbers rise are in the order of their numbers

rise-tail : (i : Item) (items : List Item) → numbers_rise (i ∷ items) ≡ true → numbers_rise items ≡ true
rise-tail i [] h = refl
rise-tail i (j ∷ items) h = (and_parts _ _ h).1

after_lower : (m n : ℕ) (items : List Item) → nat_lt m n ≡ true → rise_after n items ≡ true → rise_after m items ≡ true
after_lower m n [] below h = refl
after_lower m n (i ∷ items) below h = and_from _ _ (lt_trans m n i.number below (and_parts _ _ h).0) (and_parts _ _ h).1
  where
    lt_trans : (a b c : ℕ) → nat_lt a b ≡ true → nat_lt b c ≡ true → nat_lt a c ≡ true
    lt_trans a b c p q = grind (arith, nat_tests)

over : (n : ℕ) (items more : List Item) (i : Item) → rise_after n (items ++ i ∷ more) ≡ true → nat_cmp i.number n ≡ Greater
over n [] more i h = above_below n i.number (and_parts _ _ h).0
  where
    above_below : (n m : ℕ) → nat_lt n m ≡ true → nat_cmp m n ≡ Greater
    above_below n m h = grind (arith, nat_tests)
over n (j ∷ items) more i h = over n items more i (after_lower n j.number (items ++ i ∷ more) (and_parts _ _ h).0 (and_parts _ _ h).1)

put_last : (items more : List Item) (i : Item) → numbers_rise (items ++ i ∷ more) ≡ true → put_item items i ≡ items ++ i ∷ []
put_last [] more i h = refl
put_last (j ∷ items) more i h =
    ap (λ o. match_ordering o (i ∷ j ∷ items) (i ∷ items) (j ∷ put_item items i)) (over j.number items more i h)
    ∙ ap (λ (l : List Item). j ∷ l) (put_last items more i (rise-tail j (items ++ i ∷ more) h))

put_all-last : (items more : List Item) → numbers_rise (items ++ more) ≡ true → fold put_item items more ≡ items ++ more
put_all-last items [] h = sym (append-nil items)
put_all-last items (i ∷ more) h =
    let is : (items ++ i ∷ []) ++ more ≡ items ++ i ∷ more = append_assoc items (i ∷ []) more in
    ap (λ (l : List Item). fold put_item l more) (put_last items more i h)
    ∙ put_all-last (items ++ i ∷ []) more (subst (λ (l : List Item). numbers_rise l ≡ true) (sym is) h) ∙ is

pub by_number-rising : (items : List Item) → numbers_rise items ≡ true → by_number items ≡ items
by_number-rising items h = put_all-last [] items h
