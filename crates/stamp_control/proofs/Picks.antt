-- The version that is picked for a stamp: with one more version, and with one less that it is not.
use Rattle.std.proofs.Common.{◌≡◌, ◌⊎◌, ℕ, suc, ◌+◌, ◌<◌, List, [], ◌∷◌, ◌++◌, take, drop, length, get_or, Bool, true, false, cond, not, ◌&&◌, ltb, refl, sym, ap, ◌∙◌, subst, inl, inr, ⊎_elim, arith, true≢false, Option, Some, None}
use Rattle.std.proofs.Math.Seq.{drop-cons}
use Rattle.std.proofs.lemmas.List.{take-append-drop}
use Rattle.std.proofs.lemmas.Bool.Decides.{nat_tests}
use Rattle.deneva_base.specs.declared.numbers.Number.{Number}
use Rattle.deneva_base.specs.Lists.{IsIn}
use Rattle.deneva_base.specs.Keys.{number_lt}
use Rattle.deneva_base.proofs.Membership.{any_found, and_parts, and_true, in_cases, in_left, in_right}
use Rattle.row_store.specs.declared.versions.Version.{Version}
use Rattle.stamp_control.specs.Picks.{newer_than, offer, pick_from, pick, is_above, is_read}

-- the order of numbers
pub lt_irrefl : (a : Number) → number_lt a a ≡ false
lt_irrefl a = grind (arith, nat_tests)

pub lt_le : (a b c : Number) → number_lt a b ≡ true → number_lt c b ≡ false → number_lt a c ≡ true
lt_le a b c e f = grind (arith, nat_tests, e, f)

pub le_lt : (a b c : Number) → number_lt b a ≡ false → number_lt b c ≡ true → number_lt a c ≡ true
le_lt a b c e f = grind (arith, nat_tests, e, f)

pub le_le : (a b c : Number) → number_lt b a ≡ false → number_lt c b ≡ false → number_lt c a ≡ false
le_le a b c e f = grind (arith, nat_tests, e, f)

pub lt_not : (a b : Number) → number_lt a b ≡ true → number_lt b a ≡ false
lt_not a b e = grind (arith, nat_tests, e)

pub pick_more : (stamp : ℕ) (best : Option Version) (xs ys : List Version) → pick_from stamp best (xs ++ ys) ≡ pick_from stamp (pick_from stamp best xs) ys
pick_more stamp best [] ys = refl
pick_more stamp best (x ∷ xs) ys = pick_more stamp (offer stamp best x) xs ys

-- nothing of these is above what is picked of them
newer_le : (b : Option Version) (v w : Number) → newer_than b v ≡ false → number_lt v w ≡ false → newer_than b w ≡ false
newer_le None v w e f = absurd (true≢false e)
newer_le (Some x) v w e f = le_le w v x.number f e

offered_over : (stamp : ℕ) (b : Option Version) (v : Version) (w : Number) → newer_than b w ≡ false → newer_than (offer stamp b v) w ≡ false
offered_over stamp b v w e = go (ltb v.number.n stamp && newer_than b v.number) refl
  where
    above : (x : Option Version) → newer_than x w ≡ false → newer_than x v.number ≡ true → number_lt v.number w ≡ false
    above None f g = absurd (true≢false f)
    above (Some x) f g = le_le w x.number v.number f (lt_not x.number v.number g)

    go : (t : Bool) → (ltb v.number.n stamp && newer_than b v.number) ≡ t → newer_than (cond t (Some v) b) w ≡ false
    go true f = above b e (and_parts (ltb v.number.n stamp) (newer_than b v.number) f).1
    go false f = e

pub picked_over : (stamp : ℕ) (best : Option Version) (xs : List Version) (w : Number) → newer_than best w ≡ false → newer_than (pick_from stamp best xs) w ≡ false
picked_over stamp best [] w e = e
picked_over stamp best (x ∷ xs) w e = picked_over stamp (offer stamp best x) xs w (offered_over stamp best x w e)

offer_self : (stamp : ℕ) (b : Option Version) (v : Version) → ltb v.number.n stamp ≡ true → newer_than (offer stamp b v) v.number ≡ false
offer_self stamp b v l = go (newer_than b v.number) refl
  where
    go : (t : Bool) → newer_than b v.number ≡ t → newer_than (cond (ltb v.number.n stamp && newer_than b v.number) (Some v) b) v.number ≡ false
    go true e = ap (λ t. newer_than (cond t (Some v) b) v.number) (and_true (ltb v.number.n stamp) (newer_than b v.number) l e) ∙ lt_irrefl v.number
    go false e = ap (λ t. newer_than (cond (t && newer_than b v.number) (Some v) b) v.number) l ∙ ap (λ t. newer_than (cond t (Some v) b) v.number) e ∙ e

pub pick_over : (stamp : ℕ) (best : Option Version) (xs : List Version) (v : Version) → IsIn v xs → ltb v.number.n stamp ≡ true → newer_than (pick_from stamp best xs) v.number ≡ false
pick_over stamp best [] v i l = absurd i
pick_over stamp best (x ∷ xs) v i l = ⊎_elim
    (λ e. picked_over stamp (offer stamp best x) xs v.number (subst (λ (z : Version). newer_than (offer stamp best x) z.number ≡ false) (sym e) (offer_self stamp best x (subst (λ (z : Version). ltb z.number.n stamp ≡ true) e l))))
    (λ j. pick_over stamp (offer stamp best x) xs v j l)
    i

-- it is one of them, or what was there before
pub pick_in : (stamp : ℕ) (best : Option Version) (xs : List Version) (v : Version) → pick_from stamp best xs ≡ Some v → (best ≡ Some v) ⊎ (IsIn v xs × (ltb v.number.n stamp ≡ true))
pick_in stamp best [] v e = inl e
pick_in stamp best (x ∷ xs) v e = ⊎_elim
    (λ o. go (ltb x.number.n stamp && newer_than best x.number) refl o)
    (λ i. inr (inr i.0, i.1))
    (pick_in stamp (offer stamp best x) xs v e)
  where
    go : (t : Bool) → (ltb x.number.n stamp && newer_than best x.number) ≡ t → cond t (Some x) best ≡ Some v → (best ≡ Some v) ⊎ (IsIn v (x ∷ xs) × (ltb v.number.n stamp ≡ true))
    go true f o = let same : x ≡ v = cc in inr (inl (sym same), subst (λ (z : Version). ltb z.number.n stamp ≡ true) same (and_parts (ltb x.number.n stamp) (newer_than best x.number) f).0)
    go false f o = inl o

-- where a greater one follows, it does not matter what was there before
same_after : (stamp : ℕ) (v : Version) (ys : List Version) (b c : Option Version) → IsIn v ys → ltb v.number.n stamp ≡ true → newer_than b v.number ≡ true → newer_than c v.number ≡ true → pick_from stamp b ys ≡ pick_from stamp c ys
same_after stamp v [] b c i l e f = absurd i
same_after stamp v (y ∷ ys) b c i l e f = ⊎_elim
    (λ s.
    let y_in : ltb y.number.n stamp ≡ true = subst (λ (z : Version). ltb z.number.n stamp ≡ true) s l in
    let eb : newer_than b y.number ≡ true = subst (λ (z : Version). newer_than b z.number ≡ true) s e in
    let ec : newer_than c y.number ≡ true = subst (λ (z : Version). newer_than c z.number ≡ true) s f in
    both y_in eb ec)
    (λ j. go (ltb y.number.n stamp) refl (number_lt y.number v.number) refl (λ p q m n. same_after stamp v ys p q j l m n))
    i
  where
    both : ltb y.number.n stamp ≡ true → newer_than b y.number ≡ true → newer_than c y.number ≡ true → pick_from stamp (offer stamp b y) ys ≡ pick_from stamp (offer stamp c y) ys
    both t m n = ap (λ x. pick_from stamp (cond x (Some y) b) ys) (and_true (ltb y.number.n stamp) (newer_than b y.number) t m) ∙ sym (ap (λ x. pick_from stamp (cond x (Some y) c) ys) (and_true (ltb y.number.n stamp) (newer_than c y.number) t n))

    reach : (x : Option Version) → newer_than x v.number ≡ true → number_lt y.number v.number ≡ false → newer_than x y.number ≡ true
    reach None m n = refl
    reach (Some x) m n = lt_le x.number v.number y.number m n

    still : (x : Option Version) → newer_than x v.number ≡ true → number_lt y.number v.number ≡ true → newer_than (offer stamp x y) v.number ≡ true
    still x m n = pick_one (ltb y.number.n stamp && newer_than x y.number)
      where
        pick_one : (t : Bool) → newer_than (cond t (Some y) x) v.number ≡ true
        pick_one true = n
        pick_one false = m

    go : (t : Bool) → ltb y.number.n stamp ≡ t → (u : Bool) → number_lt y.number v.number ≡ u → ((p q : Option Version) → newer_than p v.number ≡ true → newer_than q v.number ≡ true → pick_from stamp p ys ≡ pick_from stamp q ys) → pick_from stamp (offer stamp b y) ys ≡ pick_from stamp (offer stamp c y) ys
    go t te true ue rest = rest (offer stamp b y) (offer stamp c y) (still b e ue) (still c f ue)
    go true te false ue rest = both te (reach b e ue) (reach c f ue)
    go false te false ue rest = ap (λ x. pick_from stamp (cond (x && newer_than b y.number) (Some y) b) ys) te ∙ rest b c e f ∙ sym (ap (λ x. pick_from stamp (cond (x && newer_than c y.number) (Some y) c) ys) te)

-- one that is not read is not missed
pub pick_without : (stamp : ℕ) (best : Option Version) (xs ys : List Version) (u : Version) → is_read stamp (xs ++ u ∷ ys) u.number ≡ false → pick_from stamp best (xs ++ ys) ≡ pick_from stamp best (xs ++ u ∷ ys)
pick_without stamp best xs ys u e =
    pick_more stamp best xs ys ∙ at (ltb u.number.n stamp) refl ∙ sym (pick_more stamp best xs (u ∷ ys))
  where
    step : newer_than (pick_from stamp best xs) u.number ≡ false → pick_from stamp (pick_from stamp best xs) ys ≡ pick_from stamp (offer stamp (pick_from stamp best xs) u) ys
    step f = go (ltb u.number.n stamp)
      where
        go : (t : Bool) → pick_from stamp (pick_from stamp best xs) ys ≡ pick_from stamp (cond (t && newer_than (pick_from stamp best xs) u.number) (Some u) (pick_from stamp best xs)) ys
        go true = sym (ap (λ x. pick_from stamp (cond x (Some u) (pick_from stamp best xs)) ys) f)
        go false = refl

    missed : (v : Version) → number_lt u.number v.number ≡ true → ltb v.number.n stamp ≡ true → IsIn v xs ⊎ IsIn v (u ∷ ys) → pick_from stamp (pick_from stamp best xs) ys ≡ pick_from stamp (offer stamp (pick_from stamp best xs) u) ys
    missed v m l i = ⊎_elim
        (λ j. step (newer_le (pick_from stamp best xs) v.number u.number (pick_over stamp best xs v j l) (lt_not u.number v.number m)))
        (λ j. ⊎_elim
        (λ s. absurd (true≢false (sym m ∙ ap (λ (z : Version). number_lt u.number z.number) s ∙ lt_irrefl u.number)))
        (λ k. old (newer_than (pick_from stamp best xs) v.number) refl k)
        j)
        i
      where
        taken : newer_than (pick_from stamp best xs) v.number ≡ true → newer_than (offer stamp (pick_from stamp best xs) u) v.number ≡ true
        taken f = go (ltb u.number.n stamp && newer_than (pick_from stamp best xs) u.number)
          where
            go : (t : Bool) → newer_than (cond t (Some u) (pick_from stamp best xs)) v.number ≡ true
            go true = m
            go false = f

        old : (t : Bool) → newer_than (pick_from stamp best xs) v.number ≡ t → IsIn v ys → pick_from stamp (pick_from stamp best xs) ys ≡ pick_from stamp (offer stamp (pick_from stamp best xs) u) ys
        old true f k = same_after stamp v ys (pick_from stamp best xs) (offer stamp (pick_from stamp best xs) u) k l f (taken f)
        old false f k = step (newer_le (pick_from stamp best xs) v.number u.number f (lt_not u.number v.number m))

    at : (t : Bool) → ltb u.number.n stamp ≡ t → pick_from stamp (pick_from stamp best xs) ys ≡ pick_from stamp (pick_from stamp best xs) (u ∷ ys)
    at false f = sym (ap (λ t. pick_from stamp (cond (t && newer_than (pick_from stamp best xs) u.number) (Some u) (pick_from stamp best xs)) ys) f)
    at true f =
        let above : is_above stamp u.number (xs ++ u ∷ ys) ≡ true = flip (is_above stamp u.number (xs ++ u ∷ ys)) (sym (ap (λ t. t && not (is_above stamp u.number (xs ++ u ∷ ys))) f) ∙ e) in
        let v = any_found (λ (w : Version). number_lt u.number w.number && ltb w.number.n stamp) (xs ++ u ∷ ys) above in
        let p = and_parts (number_lt u.number v.0.number) (ltb v.0.number.n stamp) v.2 in
        missed v.0 p.0 p.1 (in_cases v.0 xs (u ∷ ys) v.1)
      where
        flip : (b : Bool) → not b ≡ false → b ≡ true
        flip true s = refl
        flip false s = absurd (true≢false s)

pub pick_removed : (stamp : ℕ) (vs : List Version) (i : ℕ) (d : Version) → i < length vs → is_read stamp vs (get_or vs i d).number ≡ false → pick stamp (take i vs ++ drop (i + 1) vs) ≡ pick stamp vs
pick_removed stamp vs i d less e =
    let next : i + 1 ≡ suc i = omega arith in
    let whole : take i vs ++ (get_or vs i d ∷ drop (suc i) vs) ≡ vs = ap (λ l. take i vs ++ l) (sym (drop-cons vs i d less)) ∙ take-append-drop i vs in
    ap (λ n. pick stamp (take i vs ++ drop n vs)) next
    ∙ pick_without stamp None (take i vs) (drop (suc i) vs) (get_or vs i d) (ap (λ l. is_read stamp l (get_or vs i d).number) whole ∙ e)
    ∙ ap (pick stamp) whole

-- what is left was there
pub in_removed : (vs : List Version) (i : ℕ) (d v : Version) → i < length vs → IsIn v (take i vs ++ drop (i + 1) vs) → IsIn v vs
in_removed vs i d v less j =
    let next : i + 1 ≡ suc i = omega arith in
    let whole : take i vs ++ (get_or vs i d ∷ drop (suc i) vs) ≡ vs = ap (λ l. take i vs ++ l) (sym (drop-cons vs i d less)) ∙ take-append-drop i vs in
    subst (λ l. IsIn v l) whole
    (⊎_elim
    (λ k. in_left v (take i vs) (get_or vs i d ∷ drop (suc i) vs) k)
    (λ k. in_right v (take i vs) (get_or vs i d ∷ drop (suc i) vs) (inr k))
    (in_cases v (take i vs) (drop (suc i) vs) (subst (λ n. IsIn v (take i vs ++ drop n vs)) next j)))
