-- The least of a list is one of it, and none is below it; the same of the greatest measure.
use Rattle.std.proofs.Common.{◌≡◌, ℕ, ◌^◌, ◌<◌, ◌≤◌, List, [], ◌∷◌, Bool, true, false, cond, refl, sym, ap, ◌∙◌, subst, inl, inr, ⊎_elim, arith}
use Rattle.std.proofs.lemmas.Bool.{cases_lt}
use Rattle.std.proofs.lemmas.Bool.Decides.{nat_tests}
use Rattle.deneva_base.specs.Keys.{key_lt, attempt_lt}
use Rattle.deneva_base.specs.Lists.{IsIn, greatest_by, least_by}
use Rattle.protocol_rules.specs.Least.{least_of, IsGreatest}
use Rattle.protocol_rules.specs.Locks.{of_lesser}
use Rattle.protocol_rules.proofs.Timestamps.{top_by}

-- a test that says whether one stands below another
pub record Ordered {A : Type 0} (below : A → A → Bool) : Type 0 where
  pub self : (x : A) → below x x ≡ false
  pub trans : (a b c : A) → below a b ≡ false → below b c ≡ false → below a c ≡ false
  pub back : (a b : A) → below a b ≡ true → below b a ≡ false

pub attempts_ordered : Ordered attempt_lt
attempts_ordered = record {
  self = λ x. grind (arith, nat_tests);
  trans = λ a b c e f. grind (arith, nat_tests);
  back = λ a b e. grind (arith, nat_tests);
}

pub keys_ordered : Ordered key_lt
keys_ordered = record {
  self = λ x. grind (arith, nat_tests);
  trans = λ a b c e f. grind (arith, nat_tests);
  back = λ a b e. grind (arith, nat_tests);
}

pub owners_ordered : Ordered of_lesser
owners_ordered = record {
  self = λ x. attempts_ordered.self x.who;
  trans = λ a b c e f. attempts_ordered.trans a.who b.who c.who e f;
  back = λ a b e. attempts_ordered.back a.who b.who e;
}

module _ {A : Type 0} (below : A → A → Bool) where
  pub least_in : (x : A) (xs : List A) → IsIn (least_of below x xs) (x ∷ xs)
  least_in x [] = inl refl
  least_in x (y ∷ ys) = go (below y x) (least_in (cond (below y x) y x) ys)
    where
      go : (b : Bool) → IsIn (least_of below (cond b y x) ys) (cond b y x ∷ ys) → IsIn (least_of below (cond b y x) ys) (x ∷ y ∷ ys)
      go true i = inr i
      go false i = ⊎_elim (λ e. inl e) (λ j. inr (inr j)) i

  module _ (order : Ordered below) where
    pub least_under : (x : A) (xs : List A) (z : A) → IsIn z (x ∷ xs) → below z (least_of below x xs) ≡ false
    least_under x [] z i = ⊎_elim (λ e. subst (λ v. below v x ≡ false) (sym e) (order.self x)) (λ j. absurd j) i
    least_under x (y ∷ ys) z i = go (below y x) refl (least_under (cond (below y x) y x) ys)
      where
        go : (b : Bool) → below y x ≡ b → ((v : A) → IsIn v (cond b y x ∷ ys) → below v (least_of below (cond b y x) ys) ≡ false) → below z (least_of below (cond b y x) ys) ≡ false
        go true e next = ⊎_elim (λ s. subst (λ v. below v (least_of below y ys) ≡ false) (sym s) (order.trans x y (least_of below y ys) (order.back y x e) (next y (inl refl)))) (λ j. next z j) i
        go false e next =
            ⊎_elim
            (λ s. next z (inl s))
            (λ j. ⊎_elim (λ s. subst (λ v. below v (least_of below x ys) ≡ false) (sym s) (order.trans y x (least_of below x ys) e (next x (inl refl)))) (λ k. next z (inr k)) j)
            i

-- one has the greatest measure, where it is not 0
pub greatest_at : {A : Type 0} (f : A → ℕ) (xs : List A) → 0 < greatest_by f xs → (x : A) × IsIn x xs × (f x ≡ greatest_by f xs)
greatest_at f [] p = absurd (omega (arith, p))
greatest_at f (x ∷ xs) p =
    ⊎_elim
    (λ (lt : f x < greatest_by f xs). let y = greatest_at f xs (omega (arith, lt)) in (y.0, inr y.1, omega (arith, y.2, lt)))
    (λ (le : greatest_by f xs ≤ f x). (x, inl refl, omega (arith, le)))
    (cases_lt (f x) (greatest_by f xs))

-- one has the least measure, where it is below that of none
pub least_at : {A : Type 0} (f : A → ℕ) (xs : List A) → least_by f xs < 2 ^ 63 → (x : A) × IsIn x xs × (f x ≡ least_by f xs)
least_at f [] p = absurd (omega (arith, p))
least_at f (x ∷ xs) p =
    ⊎_elim
    (λ (lt : least_by f xs < f x). let y = least_at f xs (omega (arith, lt, p)) in (y.0, inr y.1, omega (arith, y.2, lt)))
    (λ (le : f x ≤ least_by f xs). (x, inl refl, omega (arith, le)))
    (cases_lt (least_by f xs) (f x))

pub least_most : {A : Type 0} (f : A → ℕ) (xs : List A) → least_by f xs ≤ 2 ^ 63
least_most f [] = omega arith
least_most f (x ∷ xs) = omega (arith, least_most f xs)

-- the greatest measure of those that pass a test
pub greatest_if : {A : Type 0} (p : A → Bool) (f : A → ℕ) (xs : List A) → 0 < greatest_by (λ x. cond (p x) (f x) 0) xs → IsGreatest f (λ x. IsIn x xs × (p x ≡ true)) (greatest_by (λ x. cond (p x) (f x) 0) xs)
greatest_if {A} p f xs pos =
    let m = greatest_at (λ x. cond (p x) (f x) 0) xs pos in
    let t : p m.0 ≡ true = passed m.0 (p m.0) refl (omega (arith, pos, m.2)) in (
      (m.0, (m.1, t), ap (λ b. cond b (f m.0) 0) (sym t) ∙ m.2),
      (λ x i. omega (arith, top_by (λ z. cond (p z) (f z) 0) x xs i.0, ap (λ b. cond b (f x) 0) i.1)),
    )
  where
    passed : (x : A) (b : Bool) → p x ≡ b → 0 < cond b (f x) 0 → p x ≡ true
    passed x true e l = e
    passed x false e l = absurd (omega (arith, l))

-- of the same ones, told otherwise
pub greatest_told : {A : Type 0} (f : A → ℕ) (P Q : A → Type 0) (n : ℕ) → ((x : A) → P x → Q x) → ((x : A) → Q x → P x) → IsGreatest f P n → IsGreatest f Q n
greatest_told f P Q n to from g = ((g.0.0, to g.0.0 g.0.1, g.0.2), (λ x q. g.1 x (from x q)))
