-- Customers in the order of their names.
use Rattle.std.proofs.Common.{◌≡◌, ℕ, zero, suc, ◌+◌, ◌-◌, ◌/◌, ◌<◌, ◌≤◌, ◌==◌, List, [], ◌∷◌, map, length, get_or, take, drop, Bool, true, false, ◌&&◌, Some, refl, sym, ap, subst, ◌∙◌, arith}
use Rattle.std.specs.Prelude.{option_map, slice_get}
use Rattle.std.specs.Cmp.{IsTotalOrder, IsStrictWeakOrder}
use Rattle.std.specs.List.{filter, AllWithin}
use Rattle.std.specs.List.Sorted.{IsSortedBy, IsSorted, IsStableBy, IsPartitionedBy}
use Rattle.std.specs.Ordering.{nat_cmp, ordering_then, ordering_reverse, is_lt, is_eq}
use Rattle.std.specs.Str.{bytes_eq}
use Rattle.std.specs.declared.cmp.Ordering.{Ordering}
use Rattle.std.specs.declared.cmp.Ordering.TheVariants.{Less, Equal, Greater}
use Rattle.std.proofs.lemmas.Bool.{false≢true, true≢false, and_parts}
use Rattle.std.proofs.lemmas.Bool.Decides.{nat_tests}
use Rattle.std.proofs.lemmas.Cmp.{nat_cmp_total, nat_list_cmp_total, on_total, then_total}
use Rattle.std.proofs.lemmas.List.{get_or-drop, get_or-map, length-map, length-drop}
use Rattle.std.proofs.lemmas.List.Sorted.{ranks_by, sorted_far}
use Rattle.std.proofs.lemmas.Map.Text.{is_eq-slice_cmp}
use Rattle.std.proofs.lemmas.Option.{slice_get-map}
use Rattle.deneva_base.specs.Lists.{sort}
use Rattle.deneva_base.specs.declared.rows.Cell.TheVariants.{Text}
use Rattle.deneva_base.specs.declared.rows.Keyed.{Keyed}
use Rattle.tpcc_rules.specs.Columns.{text_at}
use Rattle.tpcc_rules.specs.Names.{is_namesake, first_name_order, comes_before, namesakes, by_last_name, last_name_place, name_order, is_customer}
use Rattle.tpcc_rules.specs.Tables.{c_first, c_last}
use Rattle.tpcc_rules.proofs.StableSort.{stable_sort, sorted_again, sort_twice, filter_sort, sort-map, filter_within, filter_and, filter-map}

-- the orders

abbrev last_name_order : Keyed → Keyed → Ordering
last_name_order r q = last_name_place r q.key.a q.key.b (text_at q.row c_last)

last_total : IsTotalOrder last_name_order
last_total = then_total (on_total (λ (r : Keyed). r.key.a) nat_cmp_total) (then_total (on_total (λ (r : Keyed). r.key.b) nat_cmp_total) (on_total (λ (r : Keyed). text_at r.row c_last) nat_list_cmp_total))

first_total : IsTotalOrder first_name_order
first_total = then_total (on_total (λ (r : Keyed). text_at r.row c_first) nat_list_cmp_total) (on_total (λ (r : Keyed). r.key.c) nat_cmp_total)

name_total : IsTotalOrder name_order
name_total = then_total last_total first_total

abbrev pub name_before : Keyed → Keyed → Bool
name_before r q = is_lt (name_order r q)

-- by what a function gives
pub weak_by : {A : Type 0} (f : A → Keyed) → IsStrictWeakOrder (λ x y. name_before (f x) (f y))
weak_by f = ranks_by name_total f

names_weak : IsStrictWeakOrder name_before
names_weak = ranks_by name_total (λ r. r)

last_weak : IsStrictWeakOrder (λ r q. is_lt (last_name_order r q))
last_weak = ranks_by last_total (λ r. r)

firsts_weak : IsStrictWeakOrder comes_before
firsts_weak = ranks_by first_total (λ r. r)

-- namesakes

then_eq : (o p : Ordering) → is_eq (ordering_then o p) ≡ (is_eq o && is_eq p)
then_eq Less p = refl
then_eq Equal p = refl
then_eq Greater p = refl

numbers_eq : (x y : ℕ) → is_eq (nat_cmp x y) ≡ (x == y)
numbers_eq x y = grind (arith, nat_tests)

regroup : (a b c d : Bool) → (a && b && c && d) ≡ (a && (b && (c && d)))
regroup false b c d = refl
regroup true false c d = refl
regroup true true false d = refl
regroup true true true d = refl

-- a namesake is a customer whose place is there
named_is : (w d : ℕ) (last : List ℕ) (r : Keyed) → is_namesake w d last r ≡ (is_customer r && is_eq (last_name_place r w d last))
named_is w d last r = simp (then_eq, numbers_eq, is_eq-slice_cmp) (regroup (r.key.table == 3) (r.key.a == w) (r.key.b == d) (bytes_eq (text_at r.row c_last) last))

equal : (o : Ordering) → is_eq o ≡ true → o ≡ Equal
equal Less h = absurd (false≢true h)
equal Equal h = refl
equal Greater h = absurd (false≢true h)

named_parts : (w d : ℕ) (last : List ℕ) (r : Keyed) → is_namesake w d last r ≡ true → (is_customer r ≡ true) × (last_name_place r w d last ≡ Equal)
named_parts w d last r h =
    let both = and_parts _ _ (sym (named_is w d last r) ∙ h) in
    (both.0, equal (last_name_place r w d last) both.1)

-- a row of that district and name
abbrev model_of : ℕ → ℕ → List ℕ → Keyed
model_of w d last = record { key = record { table = 3; a = w; b = d; c = 0 }; row = Text [] ∷ Text last ∷ [] }

-- namesakes compare as their first names do
agree : (w d : ℕ) (last : List ℕ) (r q : Keyed) → is_namesake w d last r ≡ true → is_namesake w d last q ≡ true → name_before r q ≡ comes_before r q
agree w d last r q e f =
    let here : last_name_order r (model_of w d last) ≡ Equal = (named_parts w d last r e).1 in
    let there : last_name_order q (model_of w d last) ≡ Equal = (named_parts w d last q f).1 in
    let same : last_name_order r q ≡ Equal = last_total.congr r (model_of w d last) q here ∙ last_total.antisymm (model_of w d last) q ∙ ap ordering_reverse there in
    rw same refl

-- the names that are kept

pub same_namesakes : (rows sorted : List Keyed) → sorted ≡ sort name_before (filter is_customer rows) → (w d : ℕ) (last : List ℕ) → namesakes sorted w d last ≡ namesakes rows w d last
same_namesakes rows sorted is w d last =
    let named = is_namesake w d last in
    ap (sort comes_before)
    (ap (filter named) is ∙ filter_sort name_before names_weak named comes_before (agree w d last) (filter is_customer rows)
    ∙ ap (sort comes_before) (filter_within is_customer named (λ r h. (named_parts w d last r h).0) rows))
    ∙ sort_twice comes_before firsts_weak (filter named rows)

pub same_numbers : (rows sorted : List Keyed) → sorted ≡ sort name_before (filter is_customer rows) → (w d : ℕ) (last : List ℕ) → by_last_name sorted w d last ≡ by_last_name rows w d last
same_numbers rows sorted is w d last = ap (λ (named : List Keyed). option_map (λ r. r.key.c) (slice_get named ((length named + 1) / 2 - 1))) (same_namesakes rows sorted is w d last)

pub customers_alone : (rows sorted : List Keyed) → sorted ≡ sort name_before (filter is_customer rows) → filter is_customer sorted ≡ sorted
customers_alone rows sorted is =
    ap (filter is_customer) is ∙ filter_sort name_before names_weak is_customer name_before (λ r q e f. refl) (filter is_customer rows)
    ∙ ap (sort name_before) (filter_within is_customer is_customer (λ r h. h) rows) ∙ sym is

-- from references to rows

pub sorted_rows : {A : Type 0} (f : A → Keyed) (rows : List Keyed) (before after : List A) → map f before ≡ filter is_customer rows
    → IsSortedBy (λ x y. name_before (f x) (f y)) after → IsStableBy (λ x y. name_before (f x) (f y)) before after → map f after ≡ sort name_before (filter is_customer rows)
sorted_rows f rows before after is up stable =
    ap (map f) (stable_sort (λ x y. name_before (f x) (f y)) (weak_by f) before after up stable)
    ∙ sort-map f name_before before ∙ ap (sort name_before) is

pub rows_sorted : {A : Type 0} (f : A → Keyed) (xs : List A) → IsSortedBy (λ x y. name_before (f x) (f y)) xs → IsSorted name_order (map f xs)
rows_sorted f [] up k d low high = absurd (omega (arith, high))
rows_sorted f (x ∷ xs) up k d low high =
    let less : k + 1 < length (x ∷ xs) = subst (λ n. k + 1 < n) (length-map (x ∷ xs) f) high in
    rw (get_or-map f (x ∷ xs) (k + 1) x d less, get_or-map f (x ∷ xs) k x d (omega (arith, less))) (up k x low less)

pub references_sorted : {A : Type 0} (f : A → Keyed) (xs : List A) → IsSorted name_order (map f xs) → IsSortedBy (λ x y. name_before (f x) (f y)) xs
references_sorted f xs up k d low high =
    let less : k + 1 < length (map f xs) = subst (λ n. k + 1 < n) (sym (length-map xs f)) high in
    rw (← get_or-map f xs (k + 1) d (f d) high, ← get_or-map f xs k d (f d) (omega (arith, high))) (up k (f d) low less)

-- the rows of a name are what stands between those below and those above

prefix_passes : {A : Type 0} (p : A → Bool) (xs : List A) (n : ℕ) → AllWithin (λ x. p x ≡ true) xs 0 n → AllWithin (λ x. p x ≡ false) xs n (length xs) → n ≤ length xs → filter p xs ≡ take n xs
prefix_passes p [] zero passing failing within = refl
prefix_passes p [] (suc n) passing failing within = refl
prefix_passes p (x ∷ xs) zero passing failing within = rw (failing zero x (omega arith) (omega arith)) (prefix_passes p xs zero (λ k d low high. absurd (omega (arith, high))) (λ k d low high. failing (suc k) d (omega arith) (omega (arith, high))) (omega arith))
prefix_passes p (x ∷ xs) (suc n) passing failing within =
    rw (passing zero x (omega arith) (omega arith))
    (ap (λ zs. x ∷ zs) (prefix_passes p xs n (λ k d low high. passing (suc k) d (omega arith) (omega (arith, high))) (λ k d low high. failing (suc k) d (omega (arith, low)) (omega (arith, high))) (omega (arith, within))))

pub part_passes : {A : Type 0} (p : A → Bool) (xs : List A) (low n : ℕ) → AllWithin (λ x. p x ≡ false) xs 0 low → low ≤ length xs
    → AllWithin (λ x. p x ≡ true) (drop low xs) 0 n → AllWithin (λ x. p x ≡ false) (drop low xs) n (length (drop low xs)) → n ≤ length (drop low xs) → filter p xs ≡ take n (drop low xs)
part_passes p xs zero n below within passing failing most = prefix_passes p xs n passing failing most
part_passes p [] (suc low) n below within passing failing most = absurd (omega (arith, within))
part_passes p (x ∷ xs) (suc low) n below within passing failing most =
    rw (below zero x (omega arith) (omega arith)) (part_passes p xs low n (λ k d from to. below (suc k) d (omega arith) (omega (arith, to))) (omega (arith, within)) passing failing most)

then_lt : (o p : Ordering) → is_lt (ordering_then o p) ≡ false → is_lt o ≡ false
then_lt Less p h = h
then_lt Equal p h = refl
then_lt Greater p h = refl

not_apart : (o : Ordering) → is_lt o ≡ false → is_lt (ordering_reverse o) ≡ false → is_eq o ≡ true
not_apart Less h i = absurd (true≢false h)
not_apart Equal h i = refl
not_apart Greater h i = absurd (true≢false i)

lower : (w d : ℕ) (last : List ℕ) (r q : Keyed) → name_before q r ≡ false → is_lt (last_name_place q w d last) ≡ true → is_lt (last_name_place r w d last) ≡ true
lower w d last r q ordered h = go (is_lt (last_name_place r w d last)) refl
  where
    go : (b : Bool) → is_lt (last_name_place r w d last) ≡ b → is_lt (last_name_place r w d last) ≡ true
    go true e = e
    go false e = absurd (true≢false (sym h ∙ last_weak.chain q r (model_of w d last) (then_lt (last_name_order q r) (first_name_order q r) ordered) e))

alike : (w d : ℕ) (last : List ℕ) (r q : Keyed) → name_before q r ≡ false → is_lt (last_name_place r w d last) ≡ false → is_eq (last_name_place q w d last) ≡ true → is_eq (last_name_place r w d last) ≡ true
alike w d last r q ordered low h =
    let m = model_of w d last in
    let same : last_name_order q r ≡ last_name_order m r = last_total.congr q m r (equal (last_name_place q w d last) h) in
    let back : is_lt (ordering_reverse (last_name_order r m)) ≡ false =
    ap is_lt (sym (last_total.antisymm m r)) ∙ ap is_lt (sym same) ∙ then_lt (last_name_order q r) (first_name_order q r) ordered in
    not_apart (last_name_order r m) low back

module _ {A : Type 0} (f : A → Keyed) (w d : ℕ) (last : List ℕ) (xs : List A) (up : IsSorted name_order (map f xs)) where
  far : (i j : ℕ) (e : A) → i ≤ j → j < length xs → name_before (f (get_or xs j e)) (f (get_or xs i e)) ≡ false
  far i j e low high = sorted_far (λ x y. name_before (f x) (f y)) (weak_by f) xs (references_sorted f xs up) i j e low high

  pub below_partitioned : IsPartitionedBy (λ x. is_lt (last_name_place (f x) w d last)) xs
  below_partitioned i j e low high h = lower w d last (f (get_or xs i e)) (f (get_or xs j e)) (far i j e low high) h

  pub named_partitioned : (start : ℕ) → start ≤ length xs → AllWithin (λ x. is_lt (last_name_place (f x) w d last) ≡ false) xs start (length xs) → IsPartitionedBy (λ x. is_eq (last_name_place (f x) w d last)) (drop start xs)
  named_partitioned start within failing i j e low high h =
      let less : start + j < length xs = let long = length-drop start xs in omega (arith, high, long) in
      let there : is_eq (last_name_place (f (get_or xs (start + j) e)) w d last) ≡ true = rw (← get_or-drop start xs j e) h in
      rw (get_or-drop start xs i e)
      (alike w d last (f (get_or xs (start + i) e)) (f (get_or xs (start + j) e)) (far (start + i) (start + j) e (omega (arith, low)) less)
      (failing (start + i) e (omega arith) (omega (arith, low, less))) there)

  not_equal : (o : Ordering) → is_lt o ≡ true → is_eq o ≡ false
  not_equal Less h = refl
  not_equal Equal h = absurd (false≢true h)
  not_equal Greater h = refl

  -- the rows of a name are those of a part
  pub named_part : (start n : ℕ) → start ≤ length xs → AllWithin (λ x. is_lt (last_name_place (f x) w d last) ≡ true) xs 0 start
      → AllWithin (λ x. is_eq (last_name_place (f x) w d last) ≡ true) (drop start xs) 0 n
      → AllWithin (λ x. is_eq (last_name_place (f x) w d last) ≡ false) (drop start xs) n (length (drop start xs)) → n ≤ length (drop start xs)
      → filter is_customer (map f xs) ≡ map f xs
      → map f (take n (drop start xs)) ≡ namesakes (map f xs) w d last
  named_part start n within below passing failing most alone =
      let named = is_namesake w d last in
      let there = λ (r : Keyed). is_eq (last_name_place r w d last) in
      let ys = map f xs in
      ap (map f) (sym (part_passes (λ x. there (f x)) xs start n (λ k e from to. not_equal (last_name_place (f (get_or xs k e)) w d last) (below k e from to)) within passing failing most))
      ∙ filter-map f there xs
      ∙ ap (filter there) (sym alone)
      ∙ sym (filter_and is_customer there named (named_is w d last) ys)
      ∙ ap (filter named) (sym (sorted_again name_before names_weak ys up))
      ∙ filter_sort name_before names_weak named comes_before (agree w d last) ys

  pub rest_partitioned : (start : ℕ) (rest : List A) → rest ≡ drop start xs → start ≤ length xs
      → AllWithin (λ x. is_lt (last_name_place (f x) w d last) ≡ false) xs start (length xs) → IsPartitionedBy (λ x. is_eq (last_name_place (f x) w d last)) rest
  rest_partitioned start rest is within failing = subst (λ (l : List A). IsPartitionedBy (λ x. is_eq (last_name_place (f x) w d last)) l) (sym is) (named_partitioned start within failing)

  pub named_front : (start n : ℕ) (rest : List A) → rest ≡ drop start xs → start ≤ length xs → AllWithin (λ x. is_lt (last_name_place (f x) w d last) ≡ true) xs 0 start
      → filter is_customer (map f xs) ≡ map f xs
      → AllWithin (λ x. is_eq (last_name_place (f x) w d last) ≡ true) rest 0 n
      → AllWithin (λ x. is_eq (last_name_place (f x) w d last) ≡ false) rest n (length rest) → n ≤ length rest
      → map f (take n rest) ≡ namesakes (map f xs) w d last
  named_front start n rest is within below alone =
      subst
      (λ (l : List A). AllWithin (λ x. is_eq (last_name_place (f x) w d last) ≡ true) l 0 n → AllWithin (λ x. is_eq (last_name_place (f x) w d last) ≡ false) l n (length l) → n ≤ length l
      → map f (take n l) ≡ namesakes (map f xs) w d last)
      (sym is) (λ passing failing most. named_part start n within below passing failing most alone)

-- the number of the middle one
pub middle_is : {A : Type 0} (f : A → Keyed) (xs : List A) (rows : List Keyed) (w d : ℕ) (last : List ℕ) (place : ℕ) (x : A) → map f xs ≡ namesakes rows w d last
    → place ≡ (length xs + 1) / 2 - 1 → slice_get xs place ≡ Some x → Some (f x).key.c ≡ by_last_name rows w d last
middle_is f xs rows w d last place x is at got =
    let here : slice_get (map f xs) ((length (map f xs) + 1) / 2 - 1) ≡ Some (f x) = rw (length-map xs f, ← at) (slice_get-map f xs place ∙ ap (option_map f) got) in
    sym (subst (λ (named : List Keyed). option_map (λ r. r.key.c) (slice_get named ((length named + 1) / 2 - 1)) ≡ Some (f x).key.c) is (ap (option_map (λ (r : Keyed). r.key.c)) here))
