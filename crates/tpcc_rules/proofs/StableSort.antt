-- What a stable sort gives is the sort of the definitions, and what that keeps.
use Rattle.std.proofs.Common.{◌≡◌, ℕ, zero, suc, ◌<◌, ◌≤◌, List, [], ◌∷◌, map, length, get_or, Bool, true, false, not, ◌&&◌, cond, refl, sym, ap, subst, ◌∙◌, arith}
use Rattle.std.specs.Bool.{⊤}
use Rattle.std.specs.Cmp.{IsStrictWeakOrder}
use Rattle.std.specs.List.{filter}
use Rattle.std.specs.List.Sorted.{IsSortedBy, IsStableBy, ties}
use Rattle.std.proofs.lemmas.Bool.{false≢true, true≢false, and_parts}
use Rattle.std.proofs.lemmas.List.Sorted.{sorted_far}
use Rattle.deneva_base.specs.Lists.{sort, insert}

-- x stands before no element, as far as the test says
abbrev NoneBefore : {A : Type 0} → (A → A → Bool) → A → List A → Type 0
NoneBefore lt x [] = ⊤
NoneBefore lt x (y ∷ ys) = (lt y x ≡ false) × NoneBefore lt x ys

abbrev Ascends : {A : Type 0} → (A → A → Bool) → List A → Type 0
Ascends lt [] = ⊤
Ascends lt (x ∷ xs) = NoneBefore lt x xs × Ascends lt xs

-- lists

abbrev first_or : {A : Type 0} → A → List A → A
first_or d [] = d
first_or d (x ∷ xs) = x

abbrev rest_of : {A : Type 0} → List A → List A
rest_of [] = []
rest_of (x ∷ xs) = xs

same_first : {A : Type 0} (x y : A) (xs ys : List A) → x ∷ xs ≡ y ∷ ys → x ≡ y
same_first x y xs ys e = ap (first_or x) e

same_rest : {A : Type 0} (x y : A) (xs ys : List A) → x ∷ xs ≡ y ∷ ys → xs ≡ ys
same_rest x y xs ys e = ap rest_of e

abbrev is_empty : {A : Type 0} → List A → Bool
is_empty [] = true
is_empty (x ∷ xs) = false

not_empty : {A : Type 0} (x : A) (xs : List A) → [] ≡ x ∷ xs → ⊥
not_empty x xs e = true≢false (ap is_empty e)

-- the library's sorted lists ascend

none_before : {A : Type 0} (lt : A → A → Bool) (x : A) (ys : List A) → ((k : ℕ) (d : A) → k < length ys → lt (get_or ys k d) x ≡ false) → NoneBefore lt x ys
none_before lt x [] h = tt
none_before lt x (y ∷ ys) h = (h zero x (omega arith), none_before lt x ys (λ k d less. h (suc k) d (omega (arith, less))))

ascends_from_far : {A : Type 0} (lt : A → A → Bool) (xs : List A) → ((i j : ℕ) (d : A) → i ≤ j → j < length xs → lt (get_or xs j d) (get_or xs i d) ≡ false) → Ascends lt xs
ascends_from_far lt [] h = tt
ascends_from_far lt (x ∷ xs) h = (
  none_before lt x xs (λ k d less. h zero (suc k) d (omega arith) (omega (arith, less))),
  ascends_from_far lt xs (λ i j d low high. h (suc i) (suc j) d (omega (arith, low)) (omega (arith, high))),
)

ascends_from_sorted : {A : Type 0} (lt : A → A → Bool) → IsStrictWeakOrder lt → (xs : List A) → IsSortedBy lt xs → Ascends lt xs
ascends_from_sorted lt o xs up = ascends_from_far lt xs (sorted_far lt o xs up)

-- the sort of the definitions ascends

module _ {A : Type 0} (lt : A → A → Bool) (o : IsStrictWeakOrder lt) where
  itself : (x : A) → lt x x ≡ false
  itself x = go (lt x x) refl
    where
      go : (b : Bool) → lt x x ≡ b → lt x x ≡ false
      go true e = o.one_way x x e
      go false e = e

  none_before_less : (a b : A) (bs : List A) → lt b a ≡ false → NoneBefore lt b bs → NoneBefore lt a bs
  none_before_less a b [] e h = tt
  none_before_less a b (z ∷ zs) e h = (o.chain z b a h.0 e, none_before_less a b zs e h.1)

  none_before_inserted : (x a : A) (bs : List A) → lt a x ≡ false → NoneBefore lt x bs → NoneBefore lt x (insert lt a bs)
  none_before_inserted x a [] e h = (e, tt)
  none_before_inserted x a (b ∷ bs) e h = go (lt b a) (none_before_inserted x a bs e h.1)
    where
      go : (t : Bool) → NoneBefore lt x (insert lt a bs) → NoneBefore lt x (cond t (b ∷ insert lt a bs) (a ∷ b ∷ bs))
      go true next = (h.0, next)
      go false next = (e, h)

  inserted_ascends : (a : A) (bs : List A) → Ascends lt bs → Ascends lt (insert lt a bs)
  inserted_ascends a [] h = (tt, tt)
  inserted_ascends a (b ∷ bs) h = go (lt b a) refl (inserted_ascends a bs h.1)
    where
      go : (t : Bool) → lt b a ≡ t → Ascends lt (insert lt a bs) → Ascends lt (cond t (b ∷ insert lt a bs) (a ∷ b ∷ bs))
      go true e next = (none_before_inserted b a bs (o.one_way b a e) h.0, next)
      go false e next = ((e, none_before_less a b bs e h.0), h)

  sort_ascends : (xs : List A) → Ascends lt (sort lt xs)
  sort_ascends [] = tt
  sort_ascends (x ∷ xs) = inserted_ascends x (sort lt xs) (sort_ascends xs)

  -- a list that ascends is its own sort
  first_stays : (a : A) (bs : List A) → NoneBefore lt a bs → insert lt a bs ≡ a ∷ bs
  first_stays a [] h = refl
  first_stays a (b ∷ bs) h = rw h.0 refl

  pub sort_again : (xs : List A) → Ascends lt xs → sort lt xs ≡ xs
  sort_again [] h = refl
  sort_again (x ∷ xs) h = ap (insert lt x) (sort_again xs h.1) ∙ first_stays x xs h.0

  -- and stable

  not_both : (x a b : A) → lt b a ≡ true → ties lt x a ≡ true → ties lt x b ≡ true → ⊥
  not_both x a b e s t =
      let back : (c : Bool) → not c ≡ true → c ≡ false = flip in
      true≢false (sym e ∙ o.chain b x a (back (lt b x) (and_parts _ _ t).1) (back (lt x a) (and_parts _ _ s).0))
    where
      flip : (c : Bool) → not c ≡ true → c ≡ false
      flip true h = absurd (false≢true h)
      flip false h = refl

  insert_stable : (x a : A) (bs : List A) → filter (ties lt x) (insert lt a bs) ≡ filter (ties lt x) (a ∷ bs)
  insert_stable x a [] = refl
  insert_stable x a (b ∷ bs) = go (lt b a) refl (insert_stable x a bs)
    where
      swapped : (s t : Bool) (zs : List A) → (s ≡ true → t ≡ true → ⊥) → cond t (b ∷ cond s (a ∷ zs) zs) (cond s (a ∷ zs) zs) ≡ cond s (a ∷ cond t (b ∷ zs) zs) (cond t (b ∷ zs) zs)
      swapped true true zs h = absurd (h refl refl)
      swapped true false zs h = refl
      swapped false true zs h = refl
      swapped false false zs h = refl

      go : (t : Bool) → lt b a ≡ t → filter (ties lt x) (insert lt a bs) ≡ filter (ties lt x) (a ∷ bs) → filter (ties lt x) (cond t (b ∷ insert lt a bs) (a ∷ b ∷ bs)) ≡ filter (ties lt x) (a ∷ b ∷ bs)
      go true e next =
          ap (λ (zs : List A). cond (ties lt x b) (b ∷ zs) zs) next
          ∙ swapped (ties lt x a) (ties lt x b) (filter (ties lt x) bs) (λ s t. not_both x a b e s t)
      go false e next = refl

  sort_stable : (x : A) (xs : List A) → filter (ties lt x) (sort lt xs) ≡ filter (ties lt x) xs
  sort_stable x [] = refl
  sort_stable x (y ∷ ys) = insert_stable x y (sort lt ys) ∙ ap (λ (zs : List A). cond (ties lt x y) (y ∷ zs) zs) (sort_stable x ys)

  -- lists that ascend are told by their ties

  ties_itself : (x : A) → ties lt x x ≡ true
  ties_itself x = rw (itself x) refl

  tied : (x y : A) → lt x y ≡ false → lt y x ≡ false → ties lt x y ≡ true
  tied x y e f = rw (e, f) refl

  head_within : (p : A → Bool) (x y : A) (zs ws : List A) → filter p zs ≡ x ∷ ws → NoneBefore lt y zs → lt x y ≡ false
  head_within p x y [] ws e h = absurd (not_empty x ws e)
  head_within p x y (z ∷ zs) ws e h = go (p z) e (λ f. head_within p x y zs ws f h.1)
    where
      go : (t : Bool) → cond t (z ∷ filter p zs) (filter p zs) ≡ x ∷ ws → (filter p zs ≡ x ∷ ws → lt x y ≡ false) → lt x y ≡ false
      go true e next = subst (λ (q : A). lt q y ≡ false) (same_first z x (filter p zs) ws e) h.0
      go false e next = next e

  pub unique : (xs ys : List A) → Ascends lt xs → Ascends lt ys → ((x : A) → filter (ties lt x) ys ≡ filter (ties lt x) xs) → ys ≡ xs
  unique [] [] up vp h = refl
  unique [] (y ∷ ys) up vp h = absurd (not_empty y (filter (ties lt y) ys) (sym (h y) ∙ kept))
    where
      kept : filter (ties lt y) (y ∷ ys) ≡ y ∷ filter (ties lt y) ys
      kept = rw (ties_itself y) refl
  unique (x ∷ xs) [] up vp h = absurd (not_empty x (filter (ties lt x) xs) (h x ∙ kept))
    where
      kept : filter (ties lt x) (x ∷ xs) ≡ x ∷ filter (ties lt x) xs
      kept = rw (ties_itself x) refl
  unique (x ∷ xs) (y ∷ ys) up vp h =
      ap (λ (q : A). q ∷ ys) same ∙ ap (λ (qs : List A). x ∷ qs) (unique xs ys up.1 vp.1 rests)
    where
      kept : (q : A) (qs : List A) → filter (ties lt q) (q ∷ qs) ≡ q ∷ filter (ties lt q) qs
      kept q qs = rw (ties_itself q) refl

      low : lt x y ≡ false
      low = head_within (ties lt x) x y (y ∷ ys) (filter (ties lt x) xs) (h x ∙ kept x xs) (itself y, vp.0)

      high : lt y x ≡ false
      high = head_within (ties lt y) y x (x ∷ xs) (filter (ties lt y) ys) (sym (h y) ∙ kept y ys) (itself x, up.0)

      also_kept : filter (ties lt x) (y ∷ ys) ≡ y ∷ filter (ties lt x) ys
      also_kept = rw (tied x y low high) refl

      same : y ≡ x
      same = same_first y x (filter (ties lt x) ys) (filter (ties lt x) xs) (sym also_kept ∙ h x ∙ kept x xs)

      without : (t : Bool) (us vs : List A) → cond t (x ∷ us) us ≡ cond t (x ∷ vs) vs → us ≡ vs
      without true us vs e = same_rest x x us vs e
      without false us vs e = e

      rests : (z : A) → filter (ties lt z) ys ≡ filter (ties lt z) xs
      rests z = without (ties lt z x) (filter (ties lt z) ys) (filter (ties lt z) xs)
          (subst (λ (q : A). cond (ties lt z q) (q ∷ filter (ties lt z) ys) (filter (ties lt z) ys) ≡ filter (ties lt z) (x ∷ xs)) same (h z))

  -- a stable sort is the sort of the definitions
  pub stable_sort : (xs ys : List A) → IsSortedBy lt ys → IsStableBy lt xs ys → ys ≡ sort lt xs
  stable_sort xs ys up stable =
      unique (sort lt xs) ys (sort_ascends xs) (ascends_from_sorted lt o ys up) (λ x. stable x ∙ sym (sort_stable x xs))

  pub sorted_again : (xs : List A) → IsSortedBy lt xs → sort lt xs ≡ xs
  sorted_again xs up = sort_again xs (ascends_from_sorted lt o xs up)

  pub sort_twice : (xs : List A) → sort lt (sort lt xs) ≡ sort lt xs
  sort_twice xs = sort_again (sort lt xs) (sort_ascends xs)

  -- what passes a test, where another order agrees on it

  module _ (p : A → Bool) (lte : A → A → Bool) (agree : (x y : A) → p x ≡ true → p y ≡ true → lt x y ≡ lte x y) where
    first_kept : (a : A) (bs : List A) → p a ≡ true → NoneBefore lt a bs → insert lte a (filter p bs) ≡ a ∷ filter p bs
    first_kept a [] at h = refl
    first_kept a (b ∷ bs) at h = go (p b) refl (first_kept a bs at h.1)
      where
        go : (t : Bool) → p b ≡ t → insert lte a (filter p bs) ≡ a ∷ filter p bs → insert lte a (cond t (b ∷ filter p bs) (filter p bs)) ≡ a ∷ cond t (b ∷ filter p bs) (filter p bs)
        go true e next = rw (sym (agree b a e at) ∙ h.0) refl
        go false e next = next

    filter_insert : (a : A) (bs : List A) → Ascends lt bs → filter p (insert lt a bs) ≡ cond (p a) (insert lte a (filter p bs)) (filter p bs)
    filter_insert a [] h = refl
    filter_insert a (b ∷ bs) h = go (lt b a) refl (p a) refl (p b) refl (filter_insert a bs h.1)
      where
        go : (t : Bool) → lt b a ≡ t → (s : Bool) → p a ≡ s → (u : Bool) → p b ≡ u
            → filter p (insert lt a bs) ≡ cond (p a) (insert lte a (filter p bs)) (filter p bs)
            → filter p (cond t (b ∷ insert lt a bs) (a ∷ b ∷ bs)) ≡ cond s (insert lte a (cond u (b ∷ filter p bs) (filter p bs))) (cond u (b ∷ filter p bs) (filter p bs))
        go true e true f true g next = rw (g, sym (agree b a g f) ∙ e) (ap (λ (zs : List A). b ∷ zs) (next ∙ ap (λ s. cond s (insert lte a (filter p bs)) (filter p bs)) f))
        go true e true f false g next = rw g (next ∙ ap (λ s. cond s (insert lte a (filter p bs)) (filter p bs)) f)
        go true e false f true g next = rw g (ap (λ (zs : List A). b ∷ zs) (next ∙ ap (λ s. cond s (insert lte a (filter p bs)) (filter p bs)) f))
        go true e false f false g next = rw g (next ∙ ap (λ s. cond s (insert lte a (filter p bs)) (filter p bs)) f)
        go false e true f u g next =
            rw f (sym (first_kept a (b ∷ bs) f (e, none_before_less a b bs e h.0)) ∙ ap (λ s. insert lte a (cond s (b ∷ filter p bs) (filter p bs))) g)
        go false e false f u g next = rw f (ap (λ s. cond s (b ∷ filter p bs) (filter p bs)) g)

    pub filter_sort : (xs : List A) → filter p (sort lt xs) ≡ sort lte (filter p xs)
    filter_sort [] = refl
    filter_sort (x ∷ xs) =
        filter_insert x (sort lt xs) (sort_ascends xs)
        ∙ ap (λ (zs : List A). cond (p x) (insert lte x zs) zs) (filter_sort xs)
        ∙ pulled (p x)
      where
        pulled : (s : Bool) → cond s (insert lte x (sort lte (filter p xs))) (sort lte (filter p xs)) ≡ sort lte (cond s (x ∷ filter p xs) (filter p xs))
        pulled true = refl
        pulled false = refl

-- a sort by what a function gives
insert-map : {A B : Type 0} (f : A → B) (lt : B → B → Bool) (a : A) (bs : List A) → map f (insert (λ x y. lt (f x) (f y)) a bs) ≡ insert lt (f a) (map f bs)
insert-map f lt a [] = refl
insert-map {A} f lt a (b ∷ bs) = go (lt (f b) (f a)) (insert-map f lt a bs)
  where
    go : (t : Bool) → map f (insert (λ x y. lt (f x) (f y)) a bs) ≡ insert lt (f a) (map f bs) → map f (cond t (b ∷ insert (λ x y. lt (f x) (f y)) a bs) (a ∷ b ∷ bs)) ≡ cond t (f b ∷ insert lt (f a) (map f bs)) (f a ∷ f b ∷ map f bs)
    go true next = ap (λ zs. f b ∷ zs) next
    go false next = refl

pub sort-map : {A B : Type 0} (f : A → B) (lt : B → B → Bool) (xs : List A) → map f (sort (λ x y. lt (f x) (f y)) xs) ≡ sort lt (map f xs)
sort-map f lt [] = refl
sort-map f lt (x ∷ xs) = insert-map f lt x (sort (λ y z. lt (f y) (f z)) xs) ∙ ap (insert lt (f x)) (sort-map f lt xs)

-- a test within another
pub filter_within : {A : Type 0} (p q : A → Bool) → ((x : A) → q x ≡ true → p x ≡ true) → (xs : List A) → filter q (filter p xs) ≡ filter q xs
filter_within p q h [] = refl
filter_within {A} p q h (x ∷ xs) = go (p x) refl (q x) refl (filter_within p q h xs)
  where
    go : (s : Bool) → p x ≡ s → (t : Bool) → q x ≡ t → filter q (filter p xs) ≡ filter q xs → filter q (cond s (x ∷ filter p xs) (filter p xs)) ≡ cond t (x ∷ filter q xs) (filter q xs)
    go true e true f next = rw f (ap (λ (zs : List A). x ∷ zs) next)
    go true e false f next = rw f next
    go false e true f next = absurd (false≢true (sym e ∙ h x f))
    go false e false f next = next

pub filter_and : {A : Type 0} (p q both : A → Bool) → ((x : A) → both x ≡ (p x && q x)) → (xs : List A) → filter both xs ≡ filter q (filter p xs)
filter_and p q both is [] = refl
filter_and {A} p q both is (x ∷ xs) = rw (is x) (go (p x) (filter_and p q both is xs))
  where
    go : (s : Bool) → filter both xs ≡ filter q (filter p xs) → cond (s && q x) (x ∷ filter both xs) (filter both xs) ≡ filter q (cond s (x ∷ filter p xs) (filter p xs))
    go true next = ap (λ (zs : List A). cond (q x) (x ∷ zs) zs) next
    go false next = next

pub filter-map : {A B : Type 0} (f : A → B) (p : B → Bool) (xs : List A) → map f (filter (λ x. p (f x)) xs) ≡ filter p (map f xs)
filter-map f p [] = refl
filter-map {A} {B} f p (x ∷ xs) = go (p (f x)) (filter-map f p xs)
  where
    go : (t : Bool) → map f (filter (λ y. p (f y)) xs) ≡ filter p (map f xs) → map f (cond t (x ∷ filter (λ y. p (f y)) xs) (filter (λ y. p (f y)) xs)) ≡ cond t (f x ∷ filter p (map f xs)) (filter p (map f xs))
    go true next = ap (λ (zs : List B). f x ∷ zs) next
    go false next = next
