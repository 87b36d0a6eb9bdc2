-- Lines sorted by their numbers, of which no two have one id.
use Rattle.std.proofs.Common.{◌≡◌, ◌⊎◌, ℕ, zero, suc, ◌+◌, List, [], ◌∷◌, map, get_or, Bool, true, false, cond, refl, sym, ap, ◌∙◌, subst, inl, inr, ⊎_elim, arith, true≢false}
use Rattle.std.specs.List.{IsDistinct, AllByRecursion, Contains}
use Rattle.std.specs.List.Sorted.{IsPermutation, IsSortedBy}
use Rattle.std.proofs.lemmas.Bool.Decides.{nat_tests}
use Rattle.std.proofs.lemmas.List.Sorted.{IsPermutation-map, IsPermutation-sym, Contains-permutation}
use Rattle.std.proofs.lemmas.Map.Keys.{IsDistinct-head, IsDistinct-tail, IsDistinct-IsPermutation}
use Rattle.deneva_base.specs.Keys.{id_eq, NumberLt, number_lt}
use Rattle.deneva_base.specs.Lists.{IsIn}
use Rattle.deneva_base.specs.declared.numbers.Number.{Number}
use Rattle.deneva_base.specs.declared.numbers.TxnId.{TxnId}
use Rattle.deneva_base.proofs.Membership.{number_decides}
use Rattle.server_core.specs.IsSerial.{Rises}
use Rattle.server_core.specs.Lines.{put_line, sort_lines}
use Rattle.server_core.specs.declared.outcomes.Decided.{Decided}
use Rattle.server_core.proofs.serial.SortedLines.{in_sorted}

-- no two lines are of one transaction
abbrev pub HaveDistinctIds : List Decided → Type 0
HaveDistinctIds ls = IsDistinct id_eq (map (λ (l : Decided). l.number.id) ls)

-- of two numbers with different ids one is below the other
below : (a b : Number) → number_lt b a ≡ false → id_eq a.id b.id ≡ false → NumberLt a b
below a b e apart = go (number_lt a b) refl
  where
    go : (t : Bool) → number_lt a b ≡ t → NumberLt a b
    go true f = (number_decides a b).0 f
    go false f =
        let back = number_decides b a in
        let forth = number_decides a b in
        absurd (⊎_elim (λ l. true≢false (sym (forth.1 l) ∙ f)) (λ l. true≢false (sym (back.1 l) ∙ e)) (either a b apart))
      where
        either : (a b : Number) → id_eq a.id b.id ≡ false → NumberLt a b ⊎ NumberLt b a
        either a b apart = grind (arith, nat_tests)

trans : (a b c : Number) → NumberLt a b → NumberLt b c → NumberLt a c
trans a b c x y = grind (arith, x, y)

irreflexive : (a : Number) → NumberLt a a → ⊥
irreflexive a x = grind (arith, x)

-- members
in_from_contains : {A : Type 0} (xs : List A) (x : A) → Contains xs x → IsIn x xs
in_from_contains [] x (k, less, at) = absurd (omega (arith, less))
in_from_contains (y ∷ ys) x (zero, less, at) = inl (sym at)
in_from_contains (y ∷ ys) x (suc k, less, at) = inr (in_from_contains ys x (k, omega (arith, less), at))

contains_from_in : {A : Type 0} (xs : List A) (x : A) → IsIn x xs → Contains xs x
contains_from_in [] x i = absurd i
contains_from_in (y ∷ ys) x i = ⊎_elim (λ e. (zero, omega arith, sym e)) (λ r. let n = contains_from_in ys x r in (suc n.0, omega (arith, n.1), n.2)) i

pub moved : {A : Type 0} (xs ys : List A) → IsPermutation xs ys → (l : A) → IsIn l xs → IsIn l ys
moved xs ys moves l i = in_from_contains ys l (Contains-permutation xs ys l moves (contains_from_in xs l i))

apart_in : (x : TxnId) (ls : List Decided) → AllByRecursion (λ y. id_eq x y ≡ false) (map (λ (l : Decided). l.number.id) ls) → (l : Decided) → IsIn l ls → id_eq x l.number.id ≡ false
apart_in x [] all l i = absurd i
apart_in x (k ∷ ks) all l i = ⊎_elim (λ (e : l ≡ k). subst (λ (z : Decided). id_eq x z.number.id ≡ false) (sym e) all.0) (λ r. apart_in x ks all.1 l r) i

-- and the way back
pub apart_from : (x : TxnId) (ls : List Decided) → ((l : Decided) → IsIn l ls → id_eq x l.number.id ≡ false) → AllByRecursion (λ y. id_eq x y ≡ false) (map (λ (l : Decided). l.number.id) ls)
apart_from x [] h = tt
apart_from x (l ∷ ls) h = (h l (inl refl), apart_from x ls (λ k i. h k (inr i)))

heads : (k : Decided) (ks : List Decided) → HaveDistinctIds (k ∷ ks) → (l : Decided) → IsIn l ks → id_eq k.number.id l.number.id ≡ false
heads k ks d = apart_in k.number.id ks (IsDistinct-head id_eq k.number.id (map (λ (l : Decided). l.number.id) ks) d)

tails : (k : Decided) (ks : List Decided) → HaveDistinctIds (k ∷ ks) → HaveDistinctIds ks
tails k ks d = IsDistinct-tail id_eq k.number.id (map (λ (l : Decided). l.number.id) ks) d

-- lines that rise are told by their elements
pub unique : (xs ys : List Decided) → Rises xs → Rises ys → ((l : Decided) → IsIn l xs → IsIn l ys) → ((l : Decided) → IsIn l ys → IsIn l xs) → xs ≡ ys
unique [] [] r s f g = refl
unique [] (y ∷ ys) r s f g = absurd (g y (inl refl))
unique (x ∷ xs) [] r s f g = absurd (f x (inl refl))
unique (x ∷ xs) (y ∷ ys) r s f g =
    let same : x ≡ y =
    ⊎_elim
    (λ e. e)
    (λ i. ⊎_elim (λ e. sym e) (λ j. absurd (irreflexive x.number (trans x.number y.number x.number (r.0 y j) (s.0 x i)))) (g y (inl refl)))
    (f x (inl refl)) in
    ap (λ z. z ∷ xs) same ∙ ap (λ zs. y ∷ zs)
    (unique xs ys r.1 s.1
    (λ l i. ⊎_elim (λ (e : l ≡ y). absurd (irreflexive x.number (subst (λ (z : Decided). NumberLt x.number z.number) (e ∙ sym same) (r.0 l i)))) (λ j. j) (f l (inr i)))
    (λ l i. ⊎_elim (λ (e : l ≡ x). absurd (irreflexive y.number (subst (λ (z : Decided). NumberLt y.number z.number) (e ∙ same) (s.0 l i)))) (λ j. j) (g l (inr i))))

-- the definition's sort
put_cases : (l k : Decided) (ms : List Decided) → IsIn l (put_line k ms) → (l ≡ k) ⊎ IsIn l ms
put_cases l k [] i = i
put_cases l k (m ∷ ms) i = go (number_lt m.number k.number) i (put_cases l k ms)
  where
    go : (b : Bool) → IsIn l (cond b (m ∷ put_line k ms) (k ∷ m ∷ ms)) → (IsIn l (put_line k ms) → (l ≡ k) ⊎ IsIn l ms) → (l ≡ k) ⊎ IsIn l (m ∷ ms)
    go true i next = ⊎_elim (λ e. inr (inl e)) (λ j. ⊎_elim (λ e. inl e) (λ r. inr (inr r)) (next j)) i
    go false i next = i

pub sorted_in : (l : Decided) (ls : List Decided) → IsIn l (sort_lines ls) → IsIn l ls
sorted_in l [] i = i
sorted_in l (k ∷ ks) i = ⊎_elim (λ e. inl e) (λ j. inr (sorted_in l ks j)) (put_cases l k (sort_lines ks) i)

put_rises : (k : Decided) (ms : List Decided) → ((l : Decided) → IsIn l ms → id_eq k.number.id l.number.id ≡ false) → Rises ms → Rises (put_line k ms)
put_rises k [] apart r = ((λ l i. absurd i), tt)
put_rises k (m ∷ ms) apart r = go (number_lt m.number k.number) refl (put_rises k ms (λ l i. apart l (inr i)) r.1)
  where
    go : (b : Bool) → number_lt m.number k.number ≡ b → Rises (put_line k ms) → Rises (cond b (m ∷ put_line k ms) (k ∷ m ∷ ms))
    go true e next = ((λ l i. ⊎_elim (λ f. subst (λ (z : Decided). NumberLt m.number z.number) (sym f) ((number_decides m.number k.number).0 e)) (λ j. r.0 l j) (put_cases l k ms i)), next)
    go false e next =
        let less = below k.number m.number e (apart m (inl refl)) in
        ((λ l i. ⊎_elim (λ f. subst (λ (z : Decided). NumberLt k.number z.number) (sym f) less) (λ j. trans k.number m.number l.number less (r.0 l j)) i), r)

pub sort_rises : (ls : List Decided) → HaveDistinctIds ls → Rises (sort_lines ls)
sort_rises [] d = tt
sort_rises (k ∷ ks) d = put_rises k (sort_lines ks) (λ l i. heads k ks d l (sorted_in l ks i)) (sort_rises ks (tails k ks d))

-- the library's sort
rises_from_sorted : (ls : List Decided) → IsSortedBy (λ k l. number_lt k.number l.number) ls → HaveDistinctIds ls → Rises ls
rises_from_sorted [] sorted d = tt
rises_from_sorted (k ∷ ks) sorted d =
    let more = rises_from_sorted ks (λ i e low high. subst (λ (j : ℕ). number_lt (get_or (k ∷ ks) j e).number (get_or ks i e).number ≡ false) {x = suc i + 1} {y = suc (i + 1)} (omega arith) (sorted (suc i) e (omega (arith, low)) (omega (arith, high)))) (tails k ks d) in
    (first ks sorted (heads k ks d) more, more)
  where
    first : (ks : List Decided) → IsSortedBy (λ k l. number_lt k.number l.number) (k ∷ ks) → ((l : Decided) → IsIn l ks → id_eq k.number.id l.number.id ≡ false) → Rises ks → (l : Decided) → IsIn l ks → NumberLt k.number l.number
    first [] sorted apart r l i = absurd i
    first (m ∷ ms) sorted apart r l i =
        let less = below k.number m.number (sorted zero k (omega arith) (omega arith)) (apart m (inl refl)) in
        ⊎_elim (λ (e : l ≡ m). subst (λ (z : Decided). NumberLt k.number z.number) (sym e) less) (λ j. trans k.number m.number l.number less (r.0 l j)) i

-- both sorts give one list
pub sorts_agree : (ls sorted : List Decided) → IsPermutation ls sorted → IsSortedBy (λ k l. number_lt k.number l.number) sorted → HaveDistinctIds ls → sorted ≡ sort_lines ls
sorts_agree ls sorted moves rising d =
    let id = λ (l : Decided). l.number.id in
    let same = IsDistinct-IsPermutation id_eq flips (map id ls) (map id sorted) (IsPermutation-map id ls sorted moves) d in
    unique sorted (sort_lines ls) (rises_from_sorted sorted rising same) (sort_rises ls d)
    (λ l i. in_sorted l ls (moved sorted ls (IsPermutation-sym ls sorted moves) l i))
    (λ l i. moved ls sorted moves l (sorted_in l ls i))
  where
    flips : (x y : TxnId) → id_eq x y ≡ id_eq y x
    flips x y = grind (arith, nat_tests)
