-- An index of customers by their last names, as it is made and asked.
use Rattle.std.proofs.Common.{◌≡◌, ℕ, ◌+◌, ◌-◌, ◌/◌, ◌<◌, ◌==◌, List, [], ◌∷◌, length, get_or, take, Bool, true, false, ◌&&◌, ◌||◌, cond, Option, Some, None, refl, sym, ap, ◌∙◌, arith}
use Rattle.std.specs.Prelude.{option_map, slice_get}
use Rattle.std.specs.BTreeMap.{BTreeMap, get}
use Rattle.std.specs.List.{filter, list_any}
use Rattle.std.specs.Ordering.{nat_cmp, ordering_then, is_eq}
use Rattle.std.specs.Cmp.Lexicographic.{slice_cmp}
use Rattle.std.specs.declared.cmp.Ordering.{Ordering}
use Rattle.std.specs.declared.cmp.Ordering.TheVariants.{Less, Equal, Greater}
use Rattle.std.specs.Str.{bytes_eq}
use Rattle.std.proofs.lemmas.Bool.{true≢false, and_parts, and_from}
use Rattle.std.proofs.lemmas.Bool.Decides.{nat_tests}
use Rattle.std.proofs.lemmas.List.Folds.{list_any_more}
use Rattle.std.proofs.lemmas.Map.Text.{is_eq-slice_cmp}
use Rattle.std.proofs.lemmas.Slice.Eq.{bytes_eq-Decides}
use Rattle.deneva_base.specs.Lists.{sort}
use Rattle.deneva_base.specs.declared.rows.Keyed.{Keyed}
use Rattle.tpcc_rules.specs.Columns.{text_at}
use Rattle.tpcc_rules.specs.Names.{is_namesake, comes_before, by_last_name, last_name_place, is_customer}
use Rattle.tpcc_rules.specs.Tables.{c_last}
use Rattle.tpcc_rules.proofs.StableSort.{filter_within}
use Rattle.workload_text.specs.LastNames.{name_cmp, HasMiddles}
use Rattle.workload_text.specs.declared.loaded.Name.{Name}

-- the name of a row is this one
abbrev is_named : Name → Keyed → Bool
is_named n r = is_eq (last_name_place r n.w n.d n.last.items)

-- equal names

then_eq : (o p : Ordering) → is_eq (ordering_then o p) ≡ (is_eq o && is_eq p)
then_eq Less p = refl
then_eq Equal p = refl
then_eq Greater p = refl

numbers_eq : (x y : ℕ) → is_eq (nat_cmp x y) ≡ (x == y)
numbers_eq x y = grind (arith, nat_tests)

same_numbers : (x y : ℕ) → is_eq (nat_cmp x y) ≡ true → x ≡ y
same_numbers x y e = grind (arith, nat_tests, e)

same_texts : (xs ys : List ℕ) → is_eq (slice_cmp nat_cmp xs ys) ≡ true → xs ≡ ys
same_texts xs ys e = (bytes_eq-Decides xs ys).0 (sym (is_eq-slice_cmp xs ys) ∙ e)

place_parts : (n : Name) (r : Keyed) → is_named n r ≡ true → (r.key.a ≡ n.w) × (r.key.b ≡ n.d) × (text_at r.row c_last ≡ n.last.items)
place_parts n r e =
    let outer = and_parts _ _ (sym (then_eq (nat_cmp r.key.a n.w) _) ∙ e) in
    let inner = and_parts _ _ (sym (then_eq (nat_cmp r.key.b n.d) _) ∙ outer.1) in
    (same_numbers _ _ outer.0, same_numbers _ _ inner.0, same_texts _ _ inner.1)

number_of_named : (rows : List Keyed) (n : Name) (r : Keyed) → is_named n r ≡ true
    → by_last_name rows n.w n.d n.last.items ≡ by_last_name rows r.key.a r.key.b (text_at r.row c_last)
number_of_named rows n r e =
    let h = place_parts n r e in
    λ i. by_last_name rows (sym h.0 i) (sym h.1 i) (sym h.2 i)

-- the index while it is made

-- it has the last names of the rows passed
unfoldable pub HasNames : BTreeMap Name ℕ → List Keyed → List Keyed → Type 0
HasNames m rows passed = (n : Name) → get name_cmp m n ≡ cond (list_any (is_named n) passed) (by_last_name rows n.w n.d n.last.items) None

pub names_none : (m : BTreeMap Name ℕ) (rows : List Keyed) → m.entries ≡ [] → HasNames m rows []
unfolding HasNames
names_none m rows e n = rw e refl

found_step : (t b : Bool) (value found number : Option ℕ) → (b ≡ true → number ≡ value) → found ≡ cond t number None → cond b value found ≡ cond (t || b) number None
found_step true true value found number same e = sym (same refl)
found_step true false value found number same e = e
found_step false true value found number same e = sym (same refl)
found_step false false value found number same e = e

none_step : (t b : Bool) (found number : Option ℕ) → (b ≡ true → number ≡ None) → found ≡ cond t number None → found ≡ cond (t || b) number None
none_step true b found number same e = e
none_step false true found number same e = e ∙ sym (same refl)
none_step false false found number same e = e

pub names_more : (m q : BTreeMap Name ℕ) (rows : List Keyed) (i : ℕ) (r : Keyed) (name : Name) (number : ℕ) → HasNames m rows (take i rows)
    → i < length rows → get_or rows i r ≡ r → name.w ≡ r.key.a → name.d ≡ r.key.b → name.last.items ≡ text_at r.row c_last
    → Some number ≡ by_last_name rows r.key.a r.key.b (text_at r.row c_last)
    → ((n : Name) → get name_cmp q n ≡ cond (is_eq (name_cmp name n)) (Some number) (get name_cmp m n))
    → HasNames q rows (take (i + 1) rows)
unfolding HasNames
names_more m q rows i r name number inv less at w d last middle updates n =
    let same : is_eq (name_cmp name n) ≡ is_named n r = λ j. is_eq (ordering_then (nat_cmp (w j) n.w) (ordering_then (nat_cmp (d j) n.d) (slice_cmp nat_cmp (last j) n.last.items))) in
    let more : list_any (is_named n) (take (i + 1) rows) ≡ (list_any (is_named n) (take i rows) || is_named n r) =
    list_any_more (is_named n) rows i r less ∙ ap (λ x. list_any (is_named n) (take i rows) || is_named n x) at in
    updates n
    ∙ ap (λ b. cond b (Some number) (get name_cmp m n)) same
    ∙ found_step (list_any (is_named n) (take i rows)) (is_named n r) (Some number) (get name_cmp m n) (by_last_name rows n.w n.d n.last.items)
    (λ e. number_of_named rows n r e ∙ sym middle) (inv n)
    ∙ ap (λ b. cond b (by_last_name rows n.w n.d n.last.items) None) (sym more)

pub names_same : (m : BTreeMap Name ℕ) (rows : List Keyed) (i : ℕ) (r : Keyed) → HasNames m rows (take i rows)
    → i < length rows → get_or rows i r ≡ r → None ≡ by_last_name rows r.key.a r.key.b (text_at r.row c_last)
    → HasNames m rows (take (i + 1) rows)
unfolding HasNames
names_same m rows i r inv less at middle n =
    let more : list_any (is_named n) (take (i + 1) rows) ≡ (list_any (is_named n) (take i rows) || is_named n r) =
    list_any_more (is_named n) rows i r less ∙ ap (λ x. list_any (is_named n) (take i rows) || is_named n x) at in
    none_step (list_any (is_named n) (take i rows)) (is_named n r) (get name_cmp m n) (by_last_name rows n.w n.d n.last.items)
    (λ e. number_of_named rows n r e ∙ sym middle) (inv n)
    ∙ ap (λ b. cond b (by_last_name rows n.w n.d n.last.items) None) (sym more)

-- the index once it is made

none_passes : (p q : Keyed → Bool) → ((r : Keyed) → p r ≡ true → q r ≡ true) → (rows : List Keyed) → list_any q rows ≡ false → filter p rows ≡ []
none_passes p q within [] e = refl
none_passes p q within (r ∷ rows) e = step (p r) (filter p rows) (not_here (p r) refl) (none_passes p q within rows (or_false (q r) (list_any q rows) e).1)
  where
    step : (b : Bool) (rest : List Keyed) → b ≡ false → rest ≡ [] → cond b (r ∷ rest) rest ≡ []
    step true rest h e = absurd (true≢false h)
    step false rest h e = e

    or_false : (x y : Bool) → (x || y) ≡ false → (x ≡ false) × (y ≡ false)
    or_false true y f = absurd (true≢false f)
    or_false false y f = (refl, f)

    not_here : (b : Bool) → p r ≡ b → p r ≡ false
    not_here true h = absurd (true≢false (sym (within r h) ∙ (or_false (q r) (list_any q rows) e).0))
    not_here false h = h

namesake_named : (n : Name) (r : Keyed) → is_namesake n.w n.d n.last.items r ≡ true → is_named n r ≡ true
namesake_named n r e =
    let last = and_parts ((r.key.table == 3) && (r.key.a == n.w) && (r.key.b == n.d)) (bytes_eq (text_at r.row c_last) n.last.items) e in
    let district = and_parts ((r.key.table == 3) && (r.key.a == n.w)) (r.key.b == n.d) last.0 in
    let warehouse = and_parts (r.key.table == 3) (r.key.a == n.w) district.0 in
    simp (then_eq, numbers_eq, is_eq-slice_cmp) (and_from (r.key.a == n.w) _ warehouse.1 (and_from (r.key.b == n.d) (bytes_eq (text_at r.row c_last) n.last.items) district.1 last.1))

abbrev middle_of : List Keyed → Option ℕ
middle_of found = let named = sort comes_before found in option_map (λ r. r.key.c) (slice_get named ((length named + 1) / 2 - 1))

pub names_all : (m : BTreeMap Name ℕ) (rows : List Keyed) → HasNames m rows rows → HasMiddles m rows
unfolding HasNames HasMiddles
names_all m rows inv n = inv n ∙ whole (list_any (is_named n) rows) refl
  where
    whole : (b : Bool) → list_any (is_named n) rows ≡ b → cond b (by_last_name rows n.w n.d n.last.items) None ≡ by_last_name rows n.w n.d n.last.items
    whole true e = refl
    whole false e = sym (ap middle_of (none_passes (is_namesake n.w n.d n.last.items) (is_named n) (namesake_named n) rows e))

-- customers alone have last names
namesake_customer : (n : Name) (r : Keyed) → is_namesake n.w n.d n.last.items r ≡ true → is_customer r ≡ true
namesake_customer n r e =
    let last = and_parts ((r.key.table == 3) && (r.key.a == n.w) && (r.key.b == n.d)) (bytes_eq (text_at r.row c_last) n.last.items) e in
    let district = and_parts ((r.key.table == 3) && (r.key.a == n.w)) (r.key.b == n.d) last.0 in
    (and_parts (r.key.table == 3) (r.key.a == n.w) district.0).0

pub of_customers : (m : BTreeMap Name ℕ) (rows : List Keyed) → HasMiddles m (filter is_customer rows) → HasMiddles m rows
unfolding HasMiddles
of_customers m rows inv n = inv n ∙ ap middle_of (filter_within is_customer (is_namesake n.w n.d n.last.items) (namesake_customer n) rows)

-- what a look-up finds
pub number_in : (m : BTreeMap Name ℕ) (rows : List Keyed) (n : Name) (w d : ℕ) (last : List ℕ) → HasMiddles m rows
    → n.w ≡ w → n.d ≡ d → n.last.items ≡ last → {found : Option ℕ} → found ≡ get name_cmp m n → found ≡ by_last_name rows w d last
unfolding HasMiddles
number_in m rows n w d last inv same_w same_d same_last e = e ∙ inv n ∙ (λ i. by_last_name rows (same_w i) (same_d i) (same_last i))
