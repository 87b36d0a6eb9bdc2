-- How many versions of a key are kept.
use Rattle.std.proofs.Common.{◌≡◌, ◌≢◌, ◌⊎◌, ℕ, suc, ◌+◌, ◌≤◌, leb, eqb, List, [], ◌∷◌, filter, length, Bool, true, false, cond, not, ltb, ◌&&◌, ◌||◌, refl, sym, ap, ◌∙◌, subst, inl, inr, ⊎_elim, arith, true≢false}
use Rattle.std.proofs.lemmas.Bool.{cases_lt, ltb-true, ltb-false, lt-ltb, leb-true, le-leb, false_from_ne_true}
use Rattle.std.proofs.lemmas.Bool.Decides.{nat_tests}
use Rattle.deneva_base.specs.declared.keys.Key.{Key}
use Rattle.deneva_base.specs.declared.numbers.Number.{Number}
use Rattle.deneva_base.specs.Lists.{IsIn}
use Rattle.deneva_base.specs.Rows.{Rows}
use Rattle.deneva_base.specs.Keys.{key_eq, number_lt, number_eq}
use Rattle.protocol_rules.specs.History.{History, Asked, waits}
use Rattle.protocol_rules.specs.Latest.{Version}
use Rattle.protocol_rules.specs.Rules.{Obeys}
use Rattle.protocol_rules.specs.Versions.{below}
use Rattle.protocol_rules.specs.Mvcc.{versions, as_great, nth_greatest, floor, mvcc}
use Rattle.deneva_base.proofs.Membership.{in_filter, filter_in, and_parts}
use Rattle.protocol_rules.proofs.Timestamps.{top_by}
use Rattle.chain_control.specs.Kept.{in_order, awaited, is_kept, kept}
use Rattle.chain_control.proofs.Lists.{filter_all}
use Rattle.chain_control.proofs.Apart.{Apart, apart_same, apart_versions}
use Rattle.chain_control.proofs.Floors.{count_order}
use Rattle.chain_control.proofs.Bests.{or_left}

-- counts
count_le : {A : Type 0} (p q : A → Bool) (xs : List A) → ((x : A) → IsIn x xs → p x ≡ true → q x ≡ true) → length (filter p xs) ≤ length (filter q xs)
count_le p q [] f = omega arith
count_le p q (x ∷ xs) f = go (p x) (q x) (f x (inl refl)) (count_le p q xs (λ y i. f y (inr i)))
  where
    go : (a b : Bool) → (a ≡ true → b ≡ true) → length (filter p xs) ≤ length (filter q xs) → length (cond a (x ∷ filter p xs) (filter p xs)) ≤ length (cond b (x ∷ filter q xs) (filter q xs))
    go true true g l = omega (arith, l)
    go true false g l = absurd (true≢false (sym (g refl)))
    go false true g l = omega (arith, l)
    go false false g l = l

count_or : {A : Type 0} (p q : A → Bool) (xs : List A) → length (filter (λ x. p x || q x) xs) ≤ length (filter p xs) + length (filter q xs)
count_or p q [] = omega arith
count_or p q (x ∷ xs) = go (p x) (q x) (count_or p q xs)
  where
    go : (a b : Bool) → length (filter (λ z. p z || q z) xs) ≤ length (filter p xs) + length (filter q xs) → length (cond (a || b) (x ∷ filter (λ z. p z || q z) xs) (filter (λ z. p z || q z) xs)) ≤ length (cond a (x ∷ filter p xs) (filter p xs)) + length (cond b (x ∷ filter q xs) (filter q xs))
    go true true l = omega (arith, l)
    go true false l = omega (arith, l)
    go false true l = omega (arith, l)
    go false false l = l

count_none : {A : Type 0} (p : A → Bool) (xs : List A) → ((x : A) → IsIn x xs → p x ≡ false) → length (filter p xs) ≤ 0
count_none p [] f = omega arith
count_none p (x ∷ xs) f = go (p x) (f x (inl refl)) (count_none p xs (λ y i. f y (inr i)))
  where
    go : (a : Bool) → a ≡ false → length (filter p xs) ≤ 0 → length (cond a (x ∷ filter p xs) (filter p xs)) ≤ 0
    go true g l = absurd (true≢false g)
    go false g l = l

-- at most one of them has this n
at_most_one : (m : ℕ) (vs : List Version) → Apart vs → length (filter (λ v. leb m v.number.n) vs) ≤ suc (length (filter (λ v. ltb m v.number.n) vs))
at_most_one m [] a = omega arith
at_most_one m (v ∷ vs) a = go (leb m v.number.n) (ltb m v.number.n) refl refl (at_most_one m vs a.1)
  where
    go : (x y : Bool) → leb m v.number.n ≡ x → ltb m v.number.n ≡ y → length (filter (λ (z : Version). leb m z.number.n) vs) ≤ suc (length (filter (λ (z : Version). ltb m z.number.n) vs)) → length (cond x (v ∷ filter (λ (z : Version). leb m z.number.n) vs) (filter (λ (z : Version). leb m z.number.n) vs)) ≤ suc (length (cond y (v ∷ filter (λ (z : Version). ltb m z.number.n) vs) (filter (λ (z : Version). ltb m z.number.n) vs)))
    go true true e f l = omega (arith, l)
    go false y e f l = tail y
      where
        tail : (y : Bool) → length (filter (λ (z : Version). leb m z.number.n) vs) ≤ suc (length (cond y (v ∷ filter (λ (z : Version). ltb m z.number.n) vs) (filter (λ (z : Version). ltb m z.number.n) vs)))
        tail true = omega (arith, l)
        tail false = l
    go true false e f l =
        let low = leb-true m v.number.n e in
        let high = ltb-false m v.number.n f in
        omega (
          arith,
          count_le (λ (z : Version). leb m z.number.n) (λ (z : Version). ltb m z.number.n) vs (λ z i t.
              ⊎_elim (λ g. lt-ltb m z.number.n g) (λ g. absurd (a.0 z i (same m v.number.n z.number.n low high (leb-true m z.number.n t) g))) (cases_lt m z.number.n)),
        )
      where
        same : (m x y : ℕ) → m ≤ x → x ≤ m → m ≤ y → y ≤ m → y ≡ x
        same m x y a b c d = omega (arith, a, b, c, d)

one_number : (n : Number) (vs : List Version) → Apart vs → length (filter (λ v. number_eq v.number n) vs) ≤ 1
one_number n [] a = omega arith
one_number n (v ∷ vs) a = go (number_eq v.number n) refl (one_number n vs a.1)
  where
    both : (x y z : Number) → number_eq x z ≡ true → number_eq y z ≡ true → y.n ≡ x.n
    both x y z e f = grind (arith, nat_tests)

    go : (b : Bool) → number_eq v.number n ≡ b → length (filter (λ (z : Version). number_eq z.number n) vs) ≤ 1 → length (cond b (v ∷ filter (λ (z : Version). number_eq z.number n) vs) (filter (λ (z : Version). number_eq z.number n) vs)) ≤ 1
    go false e l = l
    go true e l = omega (arith, count_none (λ (z : Version). number_eq z.number n) vs (λ z i. false_from_ne_true (number_eq z.number n) (λ t. a.0 z i (both v.number z.number n e t))))

-- the least of a list
least_of : (v : Version) (vs : List Version) → (y : Version) × ((y ≡ v) ⊎ IsIn y vs) × ((w : Version) → (w ≡ v) ⊎ IsIn w vs → y.number.n ≤ w.number.n)
least_of v [] = (v, inl refl, (λ w i. ⊎_elim (λ e. omega (arith, ap (λ (z : Version). z.number.n) e)) (λ t. absurd t) i))
least_of v (x ∷ vs) =
    let y = least_of x vs in
    ⊎_elim
    (λ l. (v, inl refl, (λ w i. ⊎_elim (λ e. omega (arith, ap (λ (z : Version). z.number.n) e)) (λ t. omega (arith, y.2 w t, l)) i)))
    (λ g. (y.0, inr y.1, (λ w i. ⊎_elim (λ e. omega (arith, ap (λ (z : Version). z.number.n) e, g)) (λ t. y.2 w t) i)))
    (cases_lt v.number.n y.0.number.n)

-- at most `keep` of them are not below the `keep`-th greatest
few_greatest : (keep : ℕ) (vs : List Version) → 1 ≤ keep → Apart vs → length (filter (λ v. leb (nth_greatest keep vs) v.number.n) vs) ≤ keep
few_greatest keep vs pos a =
    ⊎_elim
    (λ more. absurd (let one = at_most_one (nth_greatest keep vs) vs a in go (filter (λ (v : Version). ltb (nth_greatest keep vs) v.number.n) vs) refl (omega (arith, more, one))))
    (λ le. le)
    (cases_lt keep (length (filter (λ (v : Version). leb (nth_greatest keep vs) v.number.n) vs)))
  where
    not_less : (w y : Version) → IsIn w vs → IsIn y vs → y.number.n ≤ w.number.n → not (number_lt w.number y.number) ≡ true
    not_less w y i j l = ⊎_elim (λ e. subst (λ (z : Version). not (number_lt w.number z.number) ≡ true) (apart_same vs w y a i j e) (self w.number)) (λ n. other w.number y.number l n) (eq_tells w.number.n y.number.n)
      where
        self : (x : Number) → not (number_lt x x) ≡ true
        self x = grind (arith, nat_tests)

        other : (x z : Number) → z.n ≤ x.n → x.n ≢ z.n → not (number_lt x z) ≡ true
        other x z l n = grind (arith, nat_tests)

        eq_tells : (x z : ℕ) → (x ≡ z) ⊎ (x ≢ z)
        eq_tells x z = grind (arith, nat_tests)

    go : (s : List Version) → ◌≡◌ {A = List Version} (filter (λ (v : Version). ltb (nth_greatest keep vs) v.number.n) vs) s → keep ≤ length s → ⊥
    go [] e l = omega (arith, l, pos)
    go (x ∷ s) e l =
        let y = least_of x s in
        let f = filter_in (λ (v : Version). ltb (nth_greatest keep vs) v.number.n) y.0 vs (subst (λ z. IsIn y.0 z) (sym e) y.1) in
        let many : length (filter (λ (v : Version). ltb (nth_greatest keep vs) v.number.n) vs) ≤ as_great vs y.0
        = count_le (λ (v : Version). ltb (nth_greatest keep vs) v.number.n) (λ (w : Version). not (number_lt w.number y.0.number)) vs
        (λ w i t. not_less w y.0 i f.0 (y.2 w (subst (λ z. IsIn w z) e (in_filter (λ (v : Version). ltb (nth_greatest keep vs) v.number.n) w vs i t))))
        in
        let size : length (filter (λ (v : Version). ltb (nth_greatest keep vs) v.number.n) vs) ≡ length (x ∷ s) = ap (λ (z : List Version). length z) e in
        omega (
          arith,
          top_by (λ v. cond (leb keep (as_great vs v)) v.number.n 0) y.0 vs f.0,
          ap (λ b. cond b y.0.number.n 0) (le-leb keep (as_great vs y.0) (omega (arith, many, size, l))),
          ltb-true (nth_greatest keep vs) y.0.number.n f.1,
        )

module _ (loaded : Rows) where
  few_awaited : (h : History) (key : Key) (ws : List Asked) (vs : List Version) → Apart vs → length (filter (awaited loaded h key ws) vs) ≤ length (filter (λ a. key_eq a.key key) ws)
  few_awaited h key [] vs a = count_none (λ v. false) vs (λ v i. refl)
  few_awaited h key (x ∷ ws) vs a = go (key_eq x.key key) refl (few_awaited h key ws vs a) (count_or (λ (v : Version). key_eq x.key key && number_eq v.number (below loaded h key x.stamp).number) (awaited loaded h key ws) vs)
    where
      go : (b : Bool) → key_eq x.key key ≡ b → length (filter (awaited loaded h key ws) vs) ≤ length (filter (λ (z : Asked). key_eq z.key key) ws) → length (filter (awaited loaded h key (x ∷ ws)) vs) ≤ length (filter (λ (v : Version). key_eq x.key key && number_eq v.number (below loaded h key x.stamp).number) vs) + length (filter (awaited loaded h key ws) vs) → length (filter (awaited loaded h key (x ∷ ws)) vs) ≤ length (cond b (x ∷ filter (λ (z : Asked). key_eq z.key key) ws) (filter (λ (z : Asked). key_eq z.key key) ws))
      go true e l m =
          omega (
            arith,
            l,
            m,
            one_number (below loaded h key x.stamp).number vs a,
            count_le (λ (v : Version). key_eq x.key key && number_eq v.number (below loaded h key x.stamp).number) (λ (v : Version). number_eq v.number (below loaded h key x.stamp).number) vs (λ v i t. (and_parts (key_eq x.key key) (number_eq v.number (below loaded h key x.stamp).number) t).1),
          )
      go false e l m = omega (arith, l, m, count_none (λ (v : Version). key_eq x.key key && number_eq v.number (below loaded h key x.stamp).number) vs (λ v i. ap (λ z. z && number_eq v.number (below loaded h key x.stamp).number) e))

  module _ (keep : ℕ) (h : History) (key : Key) where
    -- at most `keep`, and one for each that waits
    pub few_kept : Obeys loaded (mvcc keep loaded) h → 1 ≤ keep → length (kept keep loaded h key) ≤ keep + length (filter (λ a. key_eq a.key key) (waits h))
    few_kept o pos =
        let a = apart_versions keep loaded h key o in
        let f : floor keep loaded h key ≡ nth_greatest keep (versions loaded h key) = ap (λ b. cond b 0 (nth_greatest keep (versions loaded h key))) (not_zero keep pos) in
        omega (
          arith,
          count_order (is_kept keep loaded h key) loaded h key,
          count_or (λ (v : Version). leb (floor keep loaded h key) v.number.n) (awaited loaded h key (waits h)) (versions loaded h key),
          few_awaited h key (waits h) (versions loaded h key) a,
          subst (λ m. length (filter (λ (v : Version). leb m v.number.n) (versions loaded h key)) ≤ keep) (sym f) (few_greatest keep (versions loaded h key) pos a),
        )
      where
        not_zero : (n : ℕ) → 1 ≤ n → eqb n 0 ≡ false
        not_zero n l = grind (arith, nat_tests)

    -- all for 0
    pub all_kept : keep ≡ 0 → length (kept keep loaded h key) ≡ length (versions loaded h key)
    all_kept e =
        ap (λ (vs : List Version). length vs) (filter_all (is_kept keep loaded h key) (in_order loaded h key) (λ v i. or_left (leb (floor keep loaded h key) v.number.n) (awaited loaded h key (waits h) v) (le-leb (floor keep loaded h key) v.number.n (let z = none keep e in omega (arith, z)))))
        ∙ same
      where
        none : (n : ℕ) → n ≡ 0 → cond (eqb n 0) 0 (nth_greatest n (versions loaded h key)) ≡ 0
        none n e = ap (λ m. cond (eqb m 0) 0 (nth_greatest m (versions loaded h key))) e

        all_true : (xs : List Version) → filter (λ v. true) xs ≡ xs
        all_true [] = refl
        all_true (x ∷ xs) = ap (λ l. x ∷ l) (all_true xs)

        same : length (in_order loaded h key) ≡ length (versions loaded h key)
        same = sym (ap (λ (vs : List Version). length vs) (all_true (in_order loaded h key))) ∙ count_order (λ v. true) loaded h key ∙ ap (λ (vs : List Version). length vs) (all_true (versions loaded h key))
