-- The sorted list has the same elements, in the order of the test.
use Rattle.std.proofs.Common.{◌≡◌, ◌≢◌, ◌⊎◌, ℕ, ◌<◌, List, [], ◌∷◌, filter, Bool, true, false, cond, ◌&&◌, ◌||◌, ltb, refl, sym, ap, ◌∙◌, subst, inl, inr, ⊎_elim, arith, true≢false}
use Rattle.std.specs.Prelude.{⊤}
use Rattle.std.proofs.lemmas.Bool.Decides.{nat_tests}
use Rattle.deneva_base.specs.declared.keys.Key.{Key}
use Rattle.deneva_base.specs.Lists.{IsIn}
use Rattle.deneva_base.specs.Keys.{key_lt, key_eq}
use Rattle.deneva_base.proofs.KeyOrder.{key_trans, key_total}
use Rattle.protocol_rules.specs.History.{Asked}
use Rattle.protocol_rules.specs.Order.{Sorted, by_falling_stamp, by_rising_stamp}
use Rattle.deneva_base.specs.Lists.{insert, sort}
use Rattle.deneva_base.proofs.Membership.{filter_in, in_filter, key_tells, key_decides, and_true, and_parts}

-- no element stands twice
abbrev pub Distinct : List Asked → Type 0
Distinct [] = ⊤
Distinct (a ∷ as') = (IsIn a as' → ⊥) × Distinct as'

distinct_cond : (p : Asked → Bool) (a : Asked) (as' : List Asked) (t : Bool) → Distinct (a ∷ as') → Distinct (filter p as') → Distinct (cond t (a ∷ filter p as') (filter p as'))
distinct_cond p a as' true d f = ((λ i. d.0 (filter_in p a as' i).0), f)
distinct_cond p a as' false d f = f

pub distinct_filter : (p : Asked → Bool) (as' : List Asked) → Distinct as' → Distinct (filter p as')
distinct_filter p [] d = d
distinct_filter p (a ∷ as') d = distinct_cond p a as' (p a) d (distinct_filter p as' d.1)

module _ (before : Asked → Asked → Bool) where
  inserted : (x a b : Asked) (bs : List Asked) (t : Bool) → IsIn x (cond t (b ∷ insert before a bs) (a ∷ b ∷ bs)) → (IsIn x (insert before a bs) → (x ≡ a) ⊎ IsIn x bs) → (x ≡ a) ⊎ IsIn x (b ∷ bs)
  inserted x a b bs true i next = ⊎_elim (λ e. inr (inl e)) (λ r. ⊎_elim (λ e. inl e) (λ s. inr (inr s)) (next r)) i
  inserted x a b bs false i next = i

  pub insert_in : (x a : Asked) (bs : List Asked) → IsIn x (insert before a bs) → (x ≡ a) ⊎ IsIn x bs
  insert_in x a [] i = i
  insert_in x a (b ∷ bs) i = inserted x a b bs (before b a) i (insert_in x a bs)

  in_inserted : (x a b : Asked) (bs : List Asked) (t : Bool) → (x ≡ a) ⊎ IsIn x (b ∷ bs) → ((x ≡ a) ⊎ IsIn x bs → IsIn x (insert before a bs)) → IsIn x (cond t (b ∷ insert before a bs) (a ∷ b ∷ bs))
  in_inserted x a b bs true i next = ⊎_elim (λ e. inr (next (inl e))) (λ r. ⊎_elim (λ e. inl e) (λ s. inr (next (inr s))) r) i
  in_inserted x a b bs false i next = i

  pub in_insert : (x a : Asked) (bs : List Asked) → (x ≡ a) ⊎ IsIn x bs → IsIn x (insert before a bs)
  in_insert x a [] i = i
  in_insert x a (b ∷ bs) i = in_inserted x a b bs (before b a) i (in_insert x a bs)

  pub sort_in : (x : Asked) (as' : List Asked) → IsIn x (sort before as') → IsIn x as'
  sort_in x [] i = i
  sort_in x (a ∷ as') i = ⊎_elim (λ e. inl e) (λ r. inr (sort_in x as' r)) (insert_in x a (sort before as') i)

  pub in_sort : (x : Asked) (as' : List Asked) → IsIn x as' → IsIn x (sort before as')
  in_sort x [] i = i
  in_sort x (a ∷ as') i = in_insert x a (sort before as') (⊎_elim (λ e. inl e) (λ r. inr (in_sort x as' r)) i)

  -- the test is total on these, and goes on
  abbrev pub Total : List Asked → Type 0
  Total as' = (a b : Asked) → IsIn a as' → IsIn b as' → a ≢ b → before a b ≡ false → before b a ≡ true

  distinct_put : (a b : Asked) (bs : List Asked) (t : Bool) → (IsIn a (b ∷ bs) → ⊥) → Distinct (b ∷ bs) → Distinct (insert before a bs) → Distinct (cond t (b ∷ insert before a bs) (a ∷ b ∷ bs))
  distinct_put a b bs true n d f = ((λ i. ⊎_elim (λ e. n (inl (sym e))) d.0 (insert_in b a bs i)), f)
  distinct_put a b bs false n d f = (n, d)

  pub distinct_insert : (a : Asked) (bs : List Asked) → (IsIn a bs → ⊥) → Distinct bs → Distinct (insert before a bs)
  distinct_insert a [] n d = (n, d)
  distinct_insert a (b ∷ bs) n d = distinct_put a b bs (before b a) n d (distinct_insert a bs (λ i. n (inr i)) d.1)

  pub distinct_sort : (as' : List Asked) → Distinct as' → Distinct (sort before as')
  distinct_sort [] d = d
  distinct_sort (a ∷ as') d = distinct_insert a (sort before as') (λ i. d.0 (sort_in a as' i)) (distinct_sort as' d.1)

  module _ (trans : (a b c : Asked) → before a b ≡ true → before b c ≡ true → before a c ≡ true) where
    sorted_put : (a b : Asked) (bs : List Asked) (t : Bool) → before b a ≡ t → (before b a ≡ false → before a b ≡ true) → Sorted before (b ∷ bs) → Sorted before (insert before a bs) → Sorted before (cond t (b ∷ insert before a bs) (a ∷ b ∷ bs))
    sorted_put a b bs true e total s f = ((λ c i. ⊎_elim (λ x. subst (λ z. before b z ≡ true) (sym x) e) (λ j. s.0 c j) (insert_in c a bs i)), f)
    sorted_put a b bs false e total s f = ((λ c i. ⊎_elim (λ x. subst (λ z. before a z ≡ true) (sym x) (total e)) (λ j. trans a b c (total e) (s.0 c j)) i), s)

    sorted_insert : (a : Asked) (bs : List Asked) → ((b : Asked) → IsIn b bs → before b a ≡ false → before a b ≡ true) → Sorted before bs → Sorted before (insert before a bs)
    sorted_insert a [] total s = ((λ b i. absurd i), s)
    sorted_insert a (b ∷ bs) total s = sorted_put a b bs (before b a) refl (total b (inl refl)) s (sorted_insert a bs (λ c i. total c (inr i)) s.1)

    -- where the test is total on different elements, each stands before all that follow it
    pub sorted_sort : (as' : List Asked) → Distinct as' → Total as' → Sorted before (sort before as')
    sorted_sort [] d t = d
    sorted_sort (a ∷ as') d t =
        sorted_insert a (sort before as')
        (λ b i e. t b a (inr (sort_in b as' i)) (inl refl) (λ same. d.0 (subst (λ z. IsIn z as') same (sort_in b as' i))) e)
        (sorted_sort as' d.1 (λ b c i j n e. t b c (inr i) (inr j) n e))

-- the two orders
lt_trans : (x y z : ℕ) → ltb x y ≡ true → ltb y z ≡ true → ltb x z ≡ true
lt_trans x y z e f = grind (arith, nat_tests)

-- a test by key and then by another test
by_key : (k q r : Key) (x y z : Bool) → (x ≡ true → y ≡ true → z ≡ true) → (key_lt k q || (key_eq k q && x)) ≡ true → (key_lt q r || (key_eq q r && y)) ≡ true → (key_lt k r || (key_eq k r && z)) ≡ true
by_key k q r x y z n e f =
    ⊎_elim
    (λ same. ⊎_elim
    (λ s. or_right (key_lt k r) (key_eq k r && z) (and_true (key_eq k r) z ((key_decides k r).1 (same.0 ∙ s.0)) (n same.1 s.1)))
    (λ l. or_left (key_lt k r) (key_eq k r && z) (subst (λ v. key_lt v r ≡ true) (sym same.0) l))
    (parts q r y f))
    (λ l. ⊎_elim
    (λ s. or_left (key_lt k r) (key_eq k r && z) (subst (λ v. key_lt k v ≡ true) s.0 l))
    (λ m. or_left (key_lt k r) (key_eq k r && z) (key_trans k q r l m))
    (parts q r y f))
    (parts k q x e)
  where
    or_left : (a b : Bool) → a ≡ true → (a || b) ≡ true
    or_left a b e = grind arith

    or_right : (a b : Bool) → b ≡ true → (a || b) ≡ true
    or_right a b e = grind arith

    parts : (a b : Key) (x : Bool) → (key_lt a b || (key_eq a b && x)) ≡ true → ((a ≡ b) × (x ≡ true)) ⊎ (key_lt a b ≡ true)
    parts a b x e = go (key_lt a b) refl e
      where
        go : (t : Bool) → key_lt a b ≡ t → (t || (key_eq a b && x)) ≡ true → ((a ≡ b) × (x ≡ true)) ⊎ (key_lt a b ≡ true)
        go true f e = inr f
        go false f e = let p = and_parts (key_eq a b) x e in inl ((key_decides a b).0 p.0, p.1)

pub falling_trans : (a b c : Asked) → by_falling_stamp a b ≡ true → by_falling_stamp b c ≡ true → by_falling_stamp a c ≡ true
falling_trans a b c e f = by_key a.key b.key c.key (ltb b.stamp a.stamp) (ltb c.stamp b.stamp) (ltb c.stamp a.stamp) (λ x y. lt_trans c.stamp b.stamp a.stamp y x) e f

pub rising_trans : (a b c : Asked) → by_rising_stamp a b ≡ true → by_rising_stamp b c ≡ true → by_rising_stamp a c ≡ true
rising_trans a b c e f = by_key a.key b.key c.key (ltb a.stamp b.stamp) (ltb b.stamp c.stamp) (ltb a.stamp c.stamp) (lt_trans a.stamp b.stamp c.stamp) e f

-- two accesses to one key differ in their stamps
total_by : (a b : Asked) (x y : Bool) → (a.key ≡ b.key → x ≡ false → y ≡ true) → (key_lt a.key b.key || (key_eq a.key b.key && x)) ≡ false → (key_lt b.key a.key || (key_eq b.key a.key && y)) ≡ true
total_by a b x y n e = grind (arith, key_tells a.key b.key, key_tells b.key a.key, key_total a.key b.key)

lt_total : (x y : ℕ) → x ≢ y → ltb x y ≡ false → ltb y x ≡ true
lt_total x y n e = grind (arith, nat_tests)

pub falling_total : (a b : Asked) → (a.key ≡ b.key → a.stamp ≢ b.stamp) → by_falling_stamp a b ≡ false → by_falling_stamp b a ≡ true
falling_total a b n e = total_by a b (ltb b.stamp a.stamp) (ltb a.stamp b.stamp) (λ k x. lt_total b.stamp a.stamp (λ s. n k (sym s)) x) e

pub rising_total : (a b : Asked) → (a.key ≡ b.key → a.stamp ≢ b.stamp) → by_rising_stamp a b ≡ false → by_rising_stamp b a ≡ true
rising_total a b n e = total_by a b (ltb a.stamp b.stamp) (ltb b.stamp a.stamp) (λ k x. lt_total a.stamp b.stamp (n k) x) e

key_irrefl : (k : Key) → key_lt k k ≡ false
key_irrefl k = grind (arith, nat_tests)

pub falling_same : (a b : Asked) → a.key ≡ b.key → by_falling_stamp a b ≡ true → b.stamp < a.stamp
falling_same a b k e = grind (arith, nat_tests, key_irrefl a.key)

pub rising_same : (a b : Asked) → a.key ≡ b.key → by_rising_stamp a b ≡ true → a.stamp < b.stamp
rising_same a b k e = grind (arith, nat_tests, key_irrefl a.key)

-- a sorted list is told by its elements
module _ (before : Asked → Asked → Bool) (trans : (a b c : Asked) → before a b ≡ true → before b c ≡ true → before a c ≡ true) (irrefl : (a : Asked) → before a a ≡ false) where
  asym : (a b : Asked) → before a b ≡ true → before b a ≡ true → ⊥
  asym a b e f = true≢false (sym (trans a b a e f) ∙ irrefl a)

  pub sorted_unique : (xs ys : List Asked) → Sorted before xs → Sorted before ys → ((x : Asked) → IsIn x xs → IsIn x ys) → ((x : Asked) → IsIn x ys → IsIn x xs) → xs ≡ ys
  sorted_unique [] [] s t f g = refl
  sorted_unique [] (y ∷ ys) s t f g = absurd (g y (inl refl))
  sorted_unique (x ∷ xs) [] s t f g = absurd (f x (inl refl))
  sorted_unique (x ∷ xs) (y ∷ ys) s t f g =
      let same : x ≡ y =
      ⊎_elim
      (λ e. e)
      (λ i. ⊎_elim (λ e. sym e) (λ j. absurd (asym x y (s.0 y j) (t.0 x i))) (g y (inl refl)))
      (f x (inl refl)) in
      ap (λ z. z ∷ xs) same ∙ ap (λ zs. y ∷ zs)
      (sorted_unique xs ys s.1 t.1
      (λ z i. ⊎_elim (λ e. absurd (true≢false (sym (s.0 z i) ∙ ap (before x) (e ∙ sym same) ∙ irrefl x))) (λ j. j) (f z (inr i)))
      (λ z i. ⊎_elim (λ e. absurd (true≢false (sym (t.0 z i) ∙ ap (before y) (e ∙ same) ∙ irrefl y))) (λ j. j) (g z (inr i))))

  sorted_keep : (p : Asked → Bool) (x : Asked) (xs : List Asked) (b : Bool) → ((y : Asked) → IsIn y xs → before x y ≡ true) → Sorted before (filter p xs) → Sorted before (cond b (x ∷ filter p xs) (filter p xs))
  sorted_keep p x xs true f s = ((λ y i. f y (filter_in p y xs i).0), s)
  sorted_keep p x xs false f s = s

  pub sorted_filter : (p : Asked → Bool) (xs : List Asked) → Sorted before xs → Sorted before (filter p xs)
  sorted_filter p [] s = s
  sorted_filter p (x ∷ xs) s = sorted_keep p x xs (p x) s.0 (sorted_filter p xs s.1)

  -- sorting and filtering in either order
  pub sort_filter : (p : Asked → Bool) (ws : List Asked) → Distinct ws → Total before ws → sort before (filter p ws) ≡ filter p (sort before ws)
  sort_filter p ws d t =
      sorted_unique (sort before (filter p ws)) (filter p (sort before ws))
      (sorted_sort before trans (filter p ws) (distinct_filter p ws d) (λ a b i j n e. t a b (filter_in p a ws i).0 (filter_in p b ws j).0 n e))
      (sorted_filter p (sort before ws) (sorted_sort before trans ws d t))
      (λ x i. let f = filter_in p x ws (sort_in before x (filter p ws) i) in in_filter p x (sort before ws) (in_sort before x ws f.0) f.1)
      (λ x i. let f = filter_in p x (sort before ws) i in in_sort before x (filter p ws) (in_filter p x ws (sort_in before x ws f.0) f.1))

pub falling_irrefl : (a : Asked) → by_falling_stamp a a ≡ false
falling_irrefl a = grind (arith, nat_tests, key_irrefl a.key)

pub rising_irrefl : (a : Asked) → by_rising_stamp a a ≡ false
rising_irrefl a = grind (arith, nat_tests, key_irrefl a.key)
