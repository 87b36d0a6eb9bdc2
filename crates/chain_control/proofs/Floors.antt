-- The floor of a key over any list of its versions that has the greatest.
use Rattle.std.proofs.Common.{◌≡◌, ◌⊎◌, ℕ, ◌+◌, ◌<◌, ◌≤◌, leb, List, [], ◌∷◌, ◌++◌, filter, reverse, length, Bool, true, false, cond, not, eqb, refl, sym, ap, ◌∙◌, subst, inl, inr, ⊎_elim, arith, Option, Some, None, true≢false}
use Rattle.std.proofs.lemmas.Bool.{cases_lt, leb-true, le-leb}
use Rattle.std.proofs.lemmas.List.{reverse-append, reverse-reverse}
use Rattle.deneva_base.specs.declared.keys.Key.{Key}
use Rattle.deneva_base.specs.declared.numbers.Number.{Number}
use Rattle.deneva_base.specs.Lists.{IsIn, greatest_by}
use Rattle.deneva_base.specs.Rows.{Row, Rows}
use Rattle.deneva_base.specs.Keys.{number_lt}
use Rattle.protocol_rules.specs.History.{History}
use Rattle.protocol_rules.specs.Latest.{Version}
use Rattle.protocol_rules.specs.Versions.{version_of, written, start}
use Rattle.protocol_rules.specs.Mvcc.{versions, as_great, nth_greatest}
use Rattle.deneva_base.proofs.Membership.{in_left, in_right}
use Rattle.protocol_rules.proofs.Belows.{greatest_le, not_above}
use Rattle.protocol_rules.proofs.Timestamps.{top_by}
use Rattle.chain_control.specs.Kept.{in_order}
use Rattle.chain_control.proofs.Lists.{greatest_same}

-- the greatest is 0 or that of an element
pub greatest_at : {A : Type 0} (f : A → ℕ) (xs : List A) → (greatest_by f xs ≡ 0) ⊎ ((x : A) × IsIn x xs × (greatest_by f xs ≡ f x))
greatest_at f [] = inl refl
greatest_at f (x ∷ xs) =
    ⊎_elim
    (λ less. ⊎_elim (λ z. absurd (nothing_less (f x) (greatest_by f xs) less z)) (λ y. inr (y.0, inr y.1, omega (arith, less, y.2))) (greatest_at f xs))
    (λ g. inr (x, inl refl, omega (arith, g)))
    (cases_lt (f x) (greatest_by f xs))
  where
    nothing_less : (a b : ℕ) → a < b → b ≡ 0 → ⊥
    nothing_less a b l e = omega (arith, l, e)

-- the same elements have the same greatest
pub greatest_both : {A : Type 0} (f : A → ℕ) (xs ys : List A) → ((x : A) → IsIn x xs → IsIn x ys) → ((x : A) → IsIn x ys → IsIn x xs) → greatest_by f xs ≡ greatest_by f ys
greatest_both f xs ys a b = let p = greatest_le f (greatest_by f ys) xs (λ x i. top_by f x ys (a x i)) in let q = greatest_le f (greatest_by f xs) ys (λ x i. top_by f x xs (b x i)) in omega (arith, p, q)

pub count_append : {A : Type 0} (p : A → Bool) (xs ys : List A) → length (filter p (xs ++ ys)) ≡ length (filter p xs) + length (filter p ys)
count_append p [] ys = omega arith
count_append p (x ∷ xs) ys = go (p x) (count_append p xs ys)
  where
    go : (b : Bool) → length (filter p (xs ++ ys)) ≡ length (filter p xs) + length (filter p ys) → length (cond b (x ∷ filter p (xs ++ ys)) (filter p (xs ++ ys))) ≡ length (cond b (x ∷ filter p xs) (filter p xs)) + length (filter p ys)
    go true e = omega (arith, e)
    go false e = e

pub reverse-cons : {A : Type 0} (x : A) (xs : List A) → reverse (x ∷ xs) ≡ reverse xs ++ x ∷ []
reverse-cons x xs = reverse-append (x ∷ []) xs

pub count_reverse : {A : Type 0} (p : A → Bool) (xs : List A) → length (filter p (reverse xs)) ≡ length (filter p xs)
count_reverse p [] = refl
count_reverse {A} p (x ∷ xs) =
    let e = ap (λ (l : List A). length (filter p l)) (reverse-cons x xs) in
    let f = count_append p (reverse xs) (x ∷ []) in
    let g = count_reverse p xs in
    go (p x) (e ∙ f ∙ ap (λ n. n + length (filter p (x ∷ []))) g)
  where
    go : (b : Bool) → length (filter p (reverse (x ∷ xs))) ≡ length (filter p xs) + length (cond b (x ∷ []) []) → length (filter p (reverse (x ∷ xs))) ≡ length (cond b (x ∷ filter p xs) (filter p xs))
    go true e = omega (arith, e)
    go false e = omega (arith, e)

pub in_reverse : {A : Type 0} (x : A) (xs : List A) → IsIn x xs → IsIn x (reverse xs)
in_reverse x [] i = i
in_reverse x (y ∷ ys) i = subst (λ l. IsIn x l) (sym (reverse-cons y ys)) (⊎_elim (λ e. in_right x (reverse ys) (y ∷ []) (inl e)) (λ j. in_left x (reverse ys) (y ∷ []) (in_reverse x ys j)) i)

pub reverse_in : {A : Type 0} (x : A) (xs : List A) → IsIn x (reverse xs) → IsIn x xs
reverse_in x xs i = subst (λ l. IsIn x l) (reverse-reverse xs) (in_reverse x (reverse xs) i)

pub in_versions : (loaded : Rows) (h : History) (key : Key) (v : Version) → IsIn v (in_order loaded h key) → IsIn v (versions loaded h key)
in_versions loaded h key v i = ⊎_elim (λ e. inl e) (λ j. inr (reverse_in v (written h key) j)) i

pub versions_in : (loaded : Rows) (h : History) (key : Key) (v : Version) → IsIn v (versions loaded h key) → IsIn v (in_order loaded h key)
versions_in loaded h key v i = ⊎_elim (λ e. inl e) (λ j. inr (in_reverse v (written h key) j)) i

-- the order of the versions does not matter
pub count_order : (p : Version → Bool) (loaded : Rows) (h : History) (key : Key) → length (filter p (in_order loaded h key)) ≡ length (filter p (versions loaded h key))
count_order p loaded h key = go (p (start loaded key)) (count_reverse p (written h key))
  where
    go : (b : Bool) → length (filter p (reverse (written h key))) ≡ length (filter p (written h key)) → length (cond b (start loaded key ∷ filter p (reverse (written h key))) (filter p (reverse (written h key)))) ≡ length (cond b (start loaded key ∷ filter p (written h key)) (filter p (written h key)))
    go true e = omega (arith, e)
    go false e = e

pub nth_order : (keep : ℕ) (loaded : Rows) (h : History) (key : Key) → nth_greatest keep (in_order loaded h key) ≡ nth_greatest keep (versions loaded h key)
nth_order keep loaded h key =
    greatest_same (λ v. cond (leb keep (as_great (in_order loaded h key) v)) v.number.n 0) (λ v. cond (leb keep (as_great (versions loaded h key) v)) v.number.n 0) (in_order loaded h key)
    (λ v i. ap (λ n. cond (leb keep n) v.number.n 0) (count_order (λ w. not (number_lt w.number v.number)) loaded h key))
    ∙ greatest_both (λ v. cond (leb keep (as_great (versions loaded h key) v)) v.number.n 0) (in_order loaded h key) (versions loaded h key) (in_versions loaded h key) (versions_in loaded h key)

-- a part of the versions that has all that are not below the floor has the same floor
pub nth_part : (keep : ℕ) (xs ws : List Version)
    → ((x : Version) → IsIn x xs → IsIn x ws)
    → ((p : Version → Bool) → length (filter p xs) ≤ length (filter p ws))
    → ((x : Version) → IsIn x ws → nth_greatest keep ws ≤ x.number.n → IsIn x xs)
    → ((p : Version → Bool) → ((v : Version) → p v ≡ true → nth_greatest keep ws ≤ v.number.n) → length (filter p xs) ≡ length (filter p ws))
    → nth_greatest keep xs ≡ nth_greatest keep ws
nth_part keep xs ws less fewer has same =
    let up = greatest_le (λ x. cond (leb keep (as_great xs x)) x.number.n 0) (nth_greatest keep ws) xs
    (λ x i. at_most x (leb keep (as_great xs x)) (λ t.
    let c = leb-true keep (as_great xs x) t in
    let f = fewer (λ w. not (number_lt w.number x.number)) in
    omega (arith, top_by (λ z. cond (leb keep (as_great ws z)) z.number.n 0) x ws (less x i), ap (λ b. cond b x.number.n 0) (le-leb keep (as_great ws x) (omega (arith, c, f)))))) in
    let down = ⊎_elim
    (λ z. nothing (nth_greatest keep ws) z)
    (λ x. reached x.0 x.1 (leb keep (as_great ws x.0)) refl x.2)
    (greatest_at (λ v. cond (leb keep (as_great ws v)) v.number.n 0) ws) in
    omega (arith, up, down)
  where
    nothing : (m : ℕ) → m ≡ 0 → m ≤ nth_greatest keep xs
    nothing m e = omega (arith, e)

    at_most : (x : Version) (b : Bool) → (b ≡ true → x.number.n ≤ nth_greatest keep ws) → cond b x.number.n 0 ≤ nth_greatest keep ws
    at_most x true f = f refl
    at_most x false f = omega arith

    reached : (x : Version) → IsIn x ws → (b : Bool) → leb keep (as_great ws x) ≡ b → nth_greatest keep ws ≡ cond b x.number.n 0 → nth_greatest keep ws ≤ nth_greatest keep xs
    reached x i false t e = omega (arith, e)
    reached x i true t e =
        let count = same (λ w. not (number_lt w.number x.number)) (λ v q. omega (arith, e, not_above v.number x.number (flip (number_lt v.number x.number) q))) in
        omega (
          arith,
          e,
          top_by (λ z. cond (leb keep (as_great xs z)) z.number.n 0) x xs (has x i (omega (arith, e))),
          ap (λ b. cond b x.number.n 0) (ap (λ n. leb keep n) count ∙ t),
        )
      where
        flip : (b : Bool) → not b ≡ true → b ≡ false
        flip true q = absurd (true≢false (sym q))
        flip false q = refl

-- one more version among them takes no place away
counts_more : (p : Version → Bool) (v w : Version) (ws : List Version) → length (filter p (v ∷ ws)) ≤ length (filter p (v ∷ w ∷ ws))
counts_more p v w ws = go (p v) (p w)
  where
    go : (a b : Bool) → length (cond a (v ∷ filter p ws) (filter p ws)) ≤ length (cond a (v ∷ cond b (w ∷ filter p ws) (filter p ws)) (cond b (w ∷ filter p ws) (filter p ws)))
    go true true = omega arith
    go true false = omega arith
    go false true = omega arith
    go false false = omega arith

nth_more : (keep : ℕ) (v w : Version) (ws : List Version) → nth_greatest keep (v ∷ ws) ≤ nth_greatest keep (v ∷ w ∷ ws)
nth_more keep v w ws =
    greatest_le (λ x. cond (leb keep (as_great (v ∷ ws) x)) x.number.n 0) (nth_greatest keep (v ∷ w ∷ ws)) (v ∷ ws)
    (λ x i. below_it x (leb keep (as_great (v ∷ ws) x)) (λ t.
    let more = counts_more (λ (z : Version). not (number_lt z.number x.number)) v w ws in
    let le = leb-true keep (as_great (v ∷ ws) x) t in
    omega (
      arith,
      top_by (λ z. cond (leb keep (as_great (v ∷ w ∷ ws) z)) z.number.n 0) x (v ∷ w ∷ ws) (⊎_elim (λ e. inl e) (λ r. inr (inr r)) i),
      ap (λ b. cond b x.number.n 0) (le-leb keep (as_great (v ∷ w ∷ ws) x) (omega (arith, le, more))),
    )))
  where
    below_it : (x : Version) (b : Bool) → (b ≡ true → x.number.n ≤ nth_greatest keep (v ∷ w ∷ ws)) → cond b x.number.n 0 ≤ nth_greatest keep (v ∷ w ∷ ws)
    below_it x true f = f refl
    below_it x false f = omega arith

-- the floor rises
pub floor_more : (keep : ℕ) (loaded : Rows) (h : History) (key : Key) (number : Number) (r : Option Row) → cond (eqb keep 0) 0 (nth_greatest keep (start loaded key ∷ written h key)) ≤ cond (eqb keep 0) 0 (nth_greatest keep (start loaded key ∷ (version_of number r ++ written h key)))
floor_more keep loaded h key number None = omega arith
floor_more keep loaded h key number (Some row) = go (eqb keep 0)
  where
    go : (b : Bool) → cond b 0 (nth_greatest keep (start loaded key ∷ written h key)) ≤ cond b 0 (nth_greatest keep (start loaded key ∷ record { number = number; row = row } ∷ written h key))
    go true = omega arith
    go false = nth_more keep (start loaded key) (record { number = number; row = row }) (written h key)
