-- The loop of a lock table wakes the same waiters as the rule's filter.
use Rattle.std.proofs.Common.{◌≡◌, ◌<◌, ◌≤◌, List, [], ◌∷◌, filter, Bool, true, false, cond, not, ◌&&◌, leb, refl, sym, ap, ◌∙◌, subst, inl, inr, ⊎_elim, arith, true≢false}
use Rattle.deneva_base.specs.declared.keys.Key.{Key}
use Rattle.deneva_base.specs.Lists.{IsIn}
use Rattle.deneva_base.specs.Rows.{Rows}
use Rattle.deneva_base.specs.Keys.{key_eq}
use Rattle.protocol_rules.specs.History.{History, Asked, waits}
use Rattle.protocol_rules.specs.Order.{Sorted, by_falling_stamp}
use Rattle.deneva_base.specs.Lists.{sort}
use Rattle.protocol_rules.specs.Locks.{conflicts, blockers}
use Rattle.protocol_rules.specs.WaitDie.{none, is_free, front, queue, Falls}
use Rattle.deneva_base.proofs.Membership.{in_filter, filter_in, and_true, and_parts, key_decides}
use Rattle.protocol_rules.proofs.Known.{Known}
use Rattle.protocol_rules.proofs.Sorts.{Distinct, distinct_filter, sort_in, in_sort, sorted_unique, falling_trans, falling_irrefl}
use Rattle.protocol_rules.proofs.Locks.{conflict_decides}
use Rattle.protocol_rules.proofs.WaitDies.{front_in, front_free, front_or, free_parts, parts_free, in_order, falls_sorted}

-- from the front, while no owner conflicts, those just woken among them
abbrev pub loop : (Asked → Bool) → List Asked → List Asked
loop open' [] = []
loop open' (a ∷ as') = cond (open' a) (a ∷ loop (λ b. open' b && not (conflicts a.who a.key a.mode b.who b.key b.mode)) as') []

-- it and all before it are open, and none of these conflicts with one before
pub record Reached (open' : Asked → Bool) (qs : List Asked) (x : Asked) : Type 0 where
  pub there : IsIn x qs
  pub opened : (y : Asked) → IsIn y qs → x.stamp ≤ y.stamp → open' y ≡ true
  pub apart : (y z : Asked) → IsIn y qs → IsIn z qs → x.stamp ≤ y.stamp → y.stamp < z.stamp → conflicts z.who z.key z.mode y.who y.key y.mode ≡ false

flip : (b : Bool) → not b ≡ true → b ≡ false
flip true e = absurd (true≢false (sym e))
flip false e = refl

pub loop_in : (open' : Asked → Bool) (qs : List Asked) (x : Asked) → Falls qs → IsIn x (loop open' qs) → Reached open' qs x
loop_in open' [] x f i = absurd i
loop_in open' (a ∷ qs) x f i = go (open' a) refl i (loop_in (λ b. open' b && not (conflicts a.who a.key a.mode b.who b.key b.mode)) qs x f.1)
  where
    go : (t : Bool) → open' a ≡ t → IsIn x (cond t (a ∷ loop (λ b. open' b && not (conflicts a.who a.key a.mode b.who b.key b.mode)) qs) []) → (IsIn x (loop (λ b. open' b && not (conflicts a.who a.key a.mode b.who b.key b.mode)) qs) → Reached (λ b. open' b && not (conflicts a.who a.key a.mode b.who b.key b.mode)) qs x) → Reached open' (a ∷ qs) x
    go false e i rest = absurd i
    go true e i rest =
        ⊎_elim
        (λ (same : x ≡ a). record {
          there = inl same;
          opened = λ y j le. ⊎_elim (λ s. ap open' s ∙ e) (λ k. absurd (omega (arith, le, f.0 y k, ap (λ z. z.stamp) same))) j;
          apart = λ y z j k le lt.
              absurd (⊎_elim
              (λ s. ⊎_elim (λ s'. omega (arith, lt, ap (λ w. w.stamp) s, ap (λ w. w.stamp) s')) (λ k'. omega (arith, lt, ap (λ w. w.stamp) s, f.0 z k')) k)
              (λ j'. omega (arith, le, f.0 y j', ap (λ w. w.stamp) same))
              j);
        })
        (λ j.
        let r = rest j in
        record {
          there = inr r.there;
          opened = λ y k le. ⊎_elim (λ s. ap open' s ∙ e) (λ k'. (and_parts (open' y) (not (conflicts a.who a.key a.mode y.who y.key y.mode)) (r.opened y k' le)).0) k;
          apart = λ y z k l le lt.
              ⊎_elim
              (λ s. absurd (⊎_elim (λ s'. omega (arith, lt, ap (λ w. w.stamp) s, ap (λ w. w.stamp) s')) (λ l'. omega (arith, lt, ap (λ w. w.stamp) s, f.0 z l')) l))
              (λ k'. ⊎_elim
              (λ s'. flip (conflicts z.who z.key z.mode y.who y.key y.mode) (subst (λ w. not (conflicts w.who w.key w.mode y.who y.key y.mode) ≡ true) (sym s') (and_parts (open' y) (not (conflicts a.who a.key a.mode y.who y.key y.mode)) (r.opened y k' le)).1))
              (λ l'. r.apart y z k' l' le lt)
              l)
              k;
        })
        i

pub in_loop : (open' : Asked → Bool) (qs : List Asked) (x : Asked) → Falls qs → Reached open' qs x → IsIn x (loop open' qs)
in_loop open' [] x f r = r.there
in_loop open' (a ∷ qs) x f r = go (open' a) refl (in_loop (λ b. open' b && not (conflicts a.who a.key a.mode b.who b.key b.mode)) qs x f.1)
  where
    below : x.stamp ≤ a.stamp
    below = ⊎_elim (λ e. omega (arith, ap (λ z. z.stamp) e)) (λ i. omega (arith, f.0 x i)) r.there

    go : (t : Bool) → open' a ≡ t → (Reached (λ b. open' b && not (conflicts a.who a.key a.mode b.who b.key b.mode)) qs x → IsIn x (loop (λ b. open' b && not (conflicts a.who a.key a.mode b.who b.key b.mode)) qs)) → IsIn x (cond t (a ∷ loop (λ b. open' b && not (conflicts a.who a.key a.mode b.who b.key b.mode)) qs) [])
    go false e rest = absurd (true≢false (sym (r.opened a (inl refl) below) ∙ e))
    go true e rest =
        ⊎_elim
        (λ s. inl s)
        (λ i. inr (rest (record {
          there = i;
          opened = λ y j le. and_true (open' y) (not (conflicts a.who a.key a.mode y.who y.key y.mode)) (r.opened y (inr j) le) (ap not (r.apart y a (inr j) (inl refl) le (f.0 y j)));
          apart = λ y z j k le lt. r.apart y z (inr j) (inr k) le lt;
        })))
        r.there

pub loop_sorted : (open' : Asked → Bool) (qs : List Asked) → Falls qs → Sorted by_falling_stamp qs → Sorted by_falling_stamp (loop open' qs)
loop_sorted open' [] f s = s
loop_sorted open' (a ∷ qs) f s = go (open' a) (loop_sorted (λ b. open' b && not (conflicts a.who a.key a.mode b.who b.key b.mode)) qs f.1 s.1)
  where
    go : (t : Bool) → Sorted by_falling_stamp (loop (λ b. open' b && not (conflicts a.who a.key a.mode b.who b.key b.mode)) qs) → Sorted by_falling_stamp (cond t (a ∷ loop (λ b. open' b && not (conflicts a.who a.key a.mode b.who b.key b.mode)) qs) [])
    go true r = ((λ b i. s.0 b (loop_in (λ c. open' c && not (conflicts a.who a.key a.mode c.who c.key c.mode)) qs b f.1 i).there), r)
    go false r = tt

-- the waiters of the key that the rule wakes, in their order, are those that the loop finds
pub loop_front : (loaded : Rows) (h : History) (key : Key) → Known loaded h → Distinct (waits h) → loop (λ a. none (blockers h a)) (queue h key) ≡ sort by_falling_stamp (filter (λ a. key_eq a.key key) (front h))
loop_front loaded h key k d =
    sorted_unique by_falling_stamp falling_trans falling_irrefl (loop (λ a. none (blockers h a)) (queue h key)) (sort by_falling_stamp (filter (λ a. key_eq a.key key) (front h))) (loop_sorted (λ a. none (blockers h a)) (queue h key) falls ordered)
    (in_order loaded h (filter (λ a. key_eq a.key key) (front h)) k (distinct_filter (λ a. key_eq a.key key) (front h) fronts) (λ a i. front_in h a (filter_in (λ x. key_eq x.key key) a (front h) i).0))
    (λ x i.
    let r = loop_in (λ a. none (blockers h a)) (queue h key) x falls i in
    let w = of_queue x r.there in
    in_sort by_falling_stamp x (filter (λ a. key_eq a.key key) (front h))
    (in_filter (λ a. key_eq a.key key) x (front h)
    (⊎_elim
    (λ f. f)
    (λ b.
    let j = to_queue b.0 b.1 (b.2 ∙ w.1) in
    absurd (true≢false (sym (parts_free h b.0 (r.opened b.0 j b.3) (λ z l c lt. true≢false (sym ((conflict_decides z.who z.key z.mode b.0.who b.0.key b.0.mode).1 c) ∙ r.apart b.0 z j (to_queue z l (c.0 ∙ b.2 ∙ w.1)) b.3 lt))) ∙ b.4)))
    (front_or h x w.0))
    ((key_decides x.key key).1 w.1)))
    (λ x i.
    let m = filter_in (λ a. key_eq a.key key) x (front h) (sort_in by_falling_stamp x (filter (λ a. key_eq a.key key) (front h)) i) in
    let same : x.key ≡ key = (key_decides x.key key).0 m.1 in
    in_loop (λ a. none (blockers h a)) (queue h key) x falls
    (record {
      there = to_queue x (front_in h x m.0) same;
      opened = λ y j le. let w = of_queue y j in (free_parts h y (front_free h x y m.0 w.0 (w.1 ∙ sym same) le)).0;
      apart = λ y z j l le lt.
          let w = of_queue y j in
          let v = of_queue z l in
          no (conflicts z.who z.key z.mode y.who y.key y.mode) (λ t. (free_parts h y (front_free h x y m.0 w.0 (w.1 ∙ sym same) le)).1 z v.0 ((conflict_decides z.who z.key z.mode y.who y.key y.mode).0 t) lt);
    }))
  where
    ordered : Sorted by_falling_stamp (queue h key)
    ordered = in_order loaded h (filter (λ a. key_eq a.key key) (waits h)) k (distinct_filter (λ a. key_eq a.key key) (waits h) d) (λ a i. (filter_in (λ x. key_eq x.key key) a (waits h) i).0)

    of_queue : (a : Asked) → IsIn a (queue h key) → IsIn a (waits h) × (a.key ≡ key)
    of_queue a i = let f = filter_in (λ x. key_eq x.key key) a (waits h) (sort_in by_falling_stamp a (filter (λ x. key_eq x.key key) (waits h)) i) in (f.0, (key_decides a.key key).0 f.1)

    to_queue : (a : Asked) → IsIn a (waits h) → a.key ≡ key → IsIn a (queue h key)
    to_queue a i e = in_sort by_falling_stamp a (filter (λ x. key_eq x.key key) (waits h)) (in_filter (λ x. key_eq x.key key) a (waits h) i ((key_decides a.key key).1 e))

    falls : Falls (queue h key)
    falls = falls_sorted loaded key (queue h key) (λ a i. (of_queue a i).1) ordered

    fronts : Distinct (front h)
    fronts = distinct_filter (λ a. none (filter (λ b. key_eq b.key a.key && (leb a.stamp b.stamp && not (is_free h b))) (waits h))) (waits h) d

    no : (b : Bool) → (b ≡ true → ⊥) → b ≡ false
    no true n = absurd (n refl)
    no false n = refl
