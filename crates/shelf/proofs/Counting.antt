-- Lists, and how many accesses wait.
use Rattle.std.proofs.Common.{◌≡◌, ◌+◌, ◌≤◌, List, [], ◌∷◌, ◌++◌, map, filter, length, Bool, true, false, not, cond, refl, sym, ap, inl, inr, arith, true≢false}
use Rattle.deneva_base.specs.declared.answers.Answer.{Answer}
use Rattle.deneva_base.specs.declared.answers.Answer.TheVariants.{Granted, Waits, Refused}
use Rattle.deneva_base.specs.Lists.{IsIn, insert, sort}
use Rattle.protocol_rules.specs.History.{Ask, Prepare, Commit, Abort, History, waits, left_waiting, is_woken}

pub map_two : {A B C : Type 0} (f : B → C) (g : A → B) (xs : List A) → map f (map g xs) ≡ map (λ x. f (g x)) xs
map_two f g [] = refl
map_two f g (x ∷ xs) = ap (λ l. f (g x) ∷ l) (map_two f g xs)

pub length_filter : {A : Type 0} (p : A → Bool) (xs : List A) → length (filter p xs) ≤ length xs
length_filter p [] = omega arith
length_filter p (x ∷ xs) = go (p x) (length_filter p xs)
  where
    go : (b : Bool) → length (filter p xs) ≤ length xs → length (cond b (x ∷ filter p xs) (filter p xs)) ≤ length (x ∷ xs)
    go true e = omega (arith, e)
    go false e = omega (arith, e)

length_insert : {A : Type 0} (before : A → A → Bool) (x : A) (xs : List A) → length (insert before x xs) ≡ length xs + 1
length_insert before x [] = refl
length_insert before x (y ∷ ys) = go (before y x) (length_insert before x ys)
  where
    go : (t : Bool) → length (insert before x ys) ≡ length ys + 1 → length (cond t (y ∷ insert before x ys) (x ∷ y ∷ ys)) ≡ length (y ∷ ys) + 1
    go true e = omega (arith, e)
    go false e = omega arith

pub length_sort : {A : Type 0} (before : A → A → Bool) (xs : List A) → length (sort before xs) ≡ length xs
length_sort before [] = refl
length_sort before (x ∷ xs) = let e = length_insert before x (sort before xs) in let f = length_sort before xs in omega (arith, e, f)

-- those that pass one test or the other
pub split_count : {A : Type 0} (p q : A → Bool) (xs : List A) → ((x : A) → IsIn x xs → q x ≡ not (p x)) → length (filter q xs) + length (filter p xs) ≡ length xs
split_count p q [] e = refl
split_count p q (x ∷ xs) e = go (p x) (q x) (e x (inl refl)) (split_count p q xs (λ y i. e y (inr i)))
  where
    go : (b c : Bool) → c ≡ not b → length (filter q xs) + length (filter p xs) ≡ length xs → length (cond c (x ∷ filter q xs) (filter q xs)) + length (cond b (x ∷ filter p xs) (filter p xs)) ≡ length (x ∷ xs)
    go true true s r = absurd (true≢false s)
    go true false s r = omega (arith, r)
    go false true s r = omega (arith, r)
    go false false s r = absurd (true≢false (sym s))

-- no more accesses wait than calls were made
pub waits_short : (h : History) → length (waits h) ≤ length h
waits_short [] = omega arith
waits_short (Ask who stamp key mode answer ∷ h) = go answer (waits_short h)
  where
    go : (a : Answer) → length (waits h) ≤ length h → length (left_waiting (record { who = who; stamp = stamp; key = key; mode = mode }) a ++ waits h) ≤ length (Ask who stamp key mode answer ∷ h)
    go (Granted row version bound) e = omega (arith, e)
    go Waits e = omega (arith, e)
    go (Refused cause) e = omega (arith, e)
waits_short (Prepare who bound ws as' vote ∷ h) = let e = waits_short h in omega (arith, e)
waits_short (Commit who number woken ∷ h) = let e = waits_short h in let f = length_filter (λ a. not (is_woken woken a)) (waits h) in omega (arith, e, f)
waits_short (Abort who woken ∷ h) = let e = waits_short h in let f = length_filter (λ a. not (is_woken woken a)) (waits h) in omega (arith, e, f)
