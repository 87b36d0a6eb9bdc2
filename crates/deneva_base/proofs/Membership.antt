-- Membership and the tests on keys, attempts and modes.
use Rattle.std.proofs.Common.{◌≡◌, ◌≢◌, ◌⊎◌, List, [], ◌∷◌, ◌++◌, map, filter, Bool, true, false, cond, not, ◌&&◌, ◌||◌, refl, sym, ap, ◌∙◌, subst, inl, inr, ⊎_elim, arith, true≢false, Decides}
use Rattle.std.specs.List.{list_any}
use Rattle.std.proofs.lemmas.Bool.Decides.{nat_tests}
use Rattle.deneva_base.specs.declared.keys.Key.{Key}
use Rattle.deneva_base.specs.declared.numbers.Attempt.{Attempt}
use Rattle.deneva_base.specs.declared.numbers.Number.{Number}
use Rattle.deneva_base.specs.declared.keys.Mode.{Mode}
use Rattle.deneva_base.specs.declared.keys.Mode.TheVariants.{Read, Update, Put}
use Rattle.deneva_base.specs.Lists.{IsIn}
use Rattle.deneva_base.specs.Keys.{key_eq, attempt_eq, number_lt, NumberLt}
use Rattle.deneva_base.specs.Modes.{IsReading, reads, IsWriting, writes}

pub in_left : {A : Type 0} (x : A) (xs ys : List A) → IsIn x xs → IsIn x (xs ++ ys)
in_left x [] ys h = absurd h
in_left x (y ∷ xs) ys h = ⊎_elim (λ e. inl e) (λ t. inr (in_left x xs ys t)) h

pub in_right : {A : Type 0} (x : A) (xs ys : List A) → IsIn x ys → IsIn x (xs ++ ys)
in_right x [] ys h = h
in_right x (y ∷ xs) ys h = inr (in_right x xs ys h)

pub in_cases : {A : Type 0} (x : A) (xs ys : List A) → IsIn x (xs ++ ys) → IsIn x xs ⊎ IsIn x ys
in_cases x [] ys h = inr h
in_cases x (y ∷ xs) ys h = ⊎_elim (λ e. inl (inl e)) (λ t. ⊎_elim (λ a. inl (inr a)) (λ b. inr b) (in_cases x xs ys t)) h

pub in_map : {A B : Type 0} (f : A → B) (x : A) (xs : List A) → IsIn x xs → IsIn (f x) (map f xs)
in_map f x [] h = absurd h
in_map f x (y ∷ xs) h = ⊎_elim (λ e. inl (ap f e)) (λ t. inr (in_map f x xs t)) h

pub in_map_from : {A B : Type 0} (f : A → B) (y : B) (xs : List A) → IsIn y (map f xs) → (x : A) × IsIn x xs × (y ≡ f x)
in_map_from f y [] h = absurd h
in_map_from f y (x ∷ xs) h = ⊎_elim (λ e. (x, inl refl, e)) (λ t. let n = in_map_from f y xs t in (n.0, inr n.1, n.2)) h

in_cond : {A : Type 0} (x y : A) (ys : List A) (b : Bool) → (x ≡ y → b ≡ true) → (x ≡ y) ⊎ IsIn x ys → IsIn x (cond b (y ∷ ys) ys)
in_cond x y ys true f h = h
in_cond x y ys false f h = ⊎_elim (λ e. absurd (true≢false (sym (f e)))) (λ t. t) h

pub in_filter : {A : Type 0} (p : A → Bool) (x : A) (xs : List A) → IsIn x xs → p x ≡ true → IsIn x (filter p xs)
in_filter p x [] h t = h
in_filter p x (y ∷ xs) h t =
    in_cond x y (filter p xs) (p y) (λ e. subst (λ z. p z ≡ true) e t) (⊎_elim (λ e. inl e) (λ r. inr (in_filter p x xs r t)) h)

pub filter_in : {A : Type 0} (p : A → Bool) (x : A) (xs : List A) → IsIn x (filter p xs) → IsIn x xs × (p x ≡ true)
filter_in p x [] h = absurd h
filter_in p x (y ∷ xs) h = go (p y) refl h (filter_in p x xs)
  where
    go : (b : Bool) → p y ≡ b → IsIn x (cond b (y ∷ filter p xs) (filter p xs)) → (IsIn x (filter p xs) → IsIn x xs × (p x ≡ true)) → IsIn x (y ∷ xs) × (p x ≡ true)
    go true e i next = ⊎_elim (λ s. (inl s, ap p s ∙ e)) (λ t. let n = next t in (inr n.0, n.1)) i
    go false e i next = let n = next i in (inr n.0, n.1)

pub any_at : {A : Type 0} (p : A → Bool) (x : A) (xs : List A) → IsIn x xs → p x ≡ true → list_any p xs ≡ true
any_at p x [] h t = absurd h
any_at p x (y ∷ xs) h t = grind (arith, any_at p x xs)

pub any_found : {A : Type 0} (p : A → Bool) (xs : List A) → list_any p xs ≡ true → (x : A) × IsIn x xs × (p x ≡ true)
any_found p [] h = absurd (true≢false (sym h))
any_found {A} p (y ∷ xs) h = go (p y) refl h (any_found p xs)
  where
    go : (b : Bool) → p y ≡ b → (b || list_any p xs) ≡ true → (list_any p xs ≡ true → (x : A) × IsIn x xs × (p x ≡ true)) → (x : A) × IsIn x (y ∷ xs) × (p x ≡ true)
    go true e r next = (y, inl refl, e)
    go false e r next = let f = next r in (f.0, inr f.1, f.2)

-- either one passes the test, or none does
pub any_tells : {A : Type 0} (p : A → Bool) (xs : List A) → ((x : A) × IsIn x xs × (p x ≡ true)) ⊎ ((x : A) → IsIn x xs → p x ≡ false)
any_tells {A} p xs = go (list_any p xs) refl
  where
    no : (x : A) (b : Bool) → p x ≡ b → list_any p xs ≡ false → IsIn x xs → b ≡ false
    no x true e f i = absurd (true≢false (sym (any_at p x xs i e) ∙ f))
    no x false e f i = refl

    go : (b : Bool) → list_any p xs ≡ b → ((x : A) × IsIn x xs × (p x ≡ true)) ⊎ ((x : A) → IsIn x xs → p x ≡ false)
    go true e = inl (any_found p xs e)
    go false e = inr (λ x i. no x (p x) refl e i)

pub and_true : (a b : Bool) → a ≡ true → b ≡ true → (a && b) ≡ true
and_true a b p q = grind arith

pub and_parts : (a b : Bool) → (a && b) ≡ true → (a ≡ true) × (b ≡ true)
and_parts true b e = (refl, e)
and_parts false b e = absurd (true≢false (sym e))

pub key_same : (k q : Key) → k.table ≡ q.table → k.a ≡ q.a → k.b ≡ q.b → k.c ≡ q.c → k ≡ q
key_same k q e f g h = λ i. record { table = e i; a = f i; b = g i; c = h i }

pub key_decides : (k q : Key) → Decides (key_eq k q) (k ≡ q)
key_decides k q = grind (arith, nat_tests, key_same k q)

pub attempt_same : (k q : Attempt) → k.txn.0 ≡ q.txn.0 → k.turn ≡ q.turn → k ≡ q
attempt_same k q e f = λ i. record { txn = record { 0 = e i }; turn = f i }

pub attempt_decides : (k q : Attempt) → Decides (attempt_eq k q) (k ≡ q)
attempt_decides k q = grind (arith, nat_tests, attempt_same k q)

pub attempt_tells : (a b : Attempt) → ((attempt_eq a b ≡ true) × (a ≡ b)) ⊎ ((attempt_eq a b ≡ false) × (a ≢ b))
attempt_tells a b = grind (arith, attempt_decides a b)

pub key_tells : (a b : Key) → ((key_eq a b ≡ true) × (a ≡ b)) ⊎ ((key_eq a b ≡ false) × (a ≢ b))
key_tells a b = grind (arith, key_decides a b)

pub number_decides : (k q : Number) → Decides (number_lt k q) (NumberLt k q)
number_decides k q = grind (arith, nat_tests)

pub reading_decides : (m : Mode) → Decides (reads m) (IsReading m)
reading_decides Read = ((λ _. λ e. absurd (cc e)), (λ _. refl))
reading_decides Update = ((λ _. λ e. absurd (cc e)), (λ _. refl))
reading_decides Put = ((λ e. absurd (true≢false (sym e))), (λ f. absurd (f refl)))

pub writing_decides : (m : Mode) → Decides (writes m) (IsWriting m)
writing_decides Read = ((λ e. absurd (true≢false (sym e))), (λ f. absurd (f refl)))
writing_decides Update = ((λ _. λ e. absurd (cc e)), (λ _. refl))
writing_decides Put = ((λ _. λ e. absurd (cc e)), (λ _. refl))
