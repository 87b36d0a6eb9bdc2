-- The first of a list in an order.
use Rattle.std.proofs.Common.{◌≡◌, ◌⊎◌, List, [], ◌∷◌, ◌++◌, Bool, true, false, cond, refl, sym, ap, ◌∙◌, subst, inl, inr, ⊎_elim, arith, Option, Some, None}
use Rattle.std.proofs.lemmas.Bool.Decides.{nat_tests}
use Rattle.deneva_base.specs.Lists.{IsIn}
use Rattle.protocol_rules.proofs.Leasts.{Ordered}
use Rattle.range_control.specs.Ends.{upper_before, lower_before, first_of, first_by}

pub uppers_ordered : Ordered upper_before
uppers_ordered = record {
  self = λ x. grind (arith, nat_tests);
  trans = λ a b c e f. grind (arith, nat_tests);
  back = λ a b e. grind (arith, nat_tests);
}

pub lowers_ordered : Ordered lower_before
lowers_ordered = record {
  self = λ x. grind (arith, nat_tests);
  trans = λ a b c e f. grind (arith, nat_tests);
  back = λ a b e. grind (arith, nat_tests);
}

-- x is among them, and none is before it
pub record First {X A : Type 0} (before : A → A → Bool) (f : X → Option A) (best : Option A) (xs : List X) (x : A) : Type 0 where
  pub from : (best ≡ Some x) ⊎ ((y : X) × IsIn y xs × (f y ≡ Some x))
  pub best_not : (b : A) → best ≡ Some b → before b x ≡ false
  pub none_before : (y : X) (b : A) → IsIn y xs → f y ≡ Some b → before b x ≡ false

pub some_is : {A : Type 0} (a b : A) → Some a ≡ Some b → a ≡ b
some_is a b e = cc

module _ {X A : Type 0} (before : A → A → Bool) (order : Ordered before) (f : X → Option A) where
  step : (best o : Option A) (y : X) (ys : List X) (x : A) → f y ≡ o → First before f (first_of before best o) ys x → First before f best (y ∷ ys) x
  step best None y ys x e l = record {
    from = ⊎_elim (λ s. inl s) (λ i. inr (i.0, inr i.1, i.2)) l.from;
    best_not = l.best_not;
    none_before = λ z b i s. ⊎_elim (λ t. cc (sym e ∙ ap f (sym t) ∙ s)) (λ j. l.none_before z b j s) i;
  }
  step None (Some v) y ys x e l = record {
    from = ⊎_elim (λ s. inr (y, inl refl, e ∙ s)) (λ i. inr (i.0, inr i.1, i.2)) l.from;
    best_not = λ b s. cc s;
    none_before = λ z b i s. ⊎_elim (λ t. l.best_not b (sym e ∙ ap f (sym t) ∙ s)) (λ j. l.none_before z b j s) i;
  }
  step (Some u) (Some v) y ys x e l = go (before v u) refl l
    where
      go : (t : Bool) → before v u ≡ t → First before f (Some (cond t v u)) ys x → First before f (Some u) (y ∷ ys) x
      go true lt m = record {
        from = ⊎_elim (λ s. inr (y, inl refl, e ∙ s)) (λ i. inr (i.0, inr i.1, i.2)) m.from;
        best_not = λ b s. subst (λ z. before z x ≡ false) (some_is u b s) (order.trans u v x (order.back v u lt) (m.best_not v refl));
        none_before = λ z b i s. ⊎_elim (λ t. m.best_not b (sym e ∙ ap f (sym t) ∙ s)) (λ j. m.none_before z b j s) i;
      }
      go false lt m = record {
        from = ⊎_elim (λ s. inl s) (λ i. inr (i.0, inr i.1, i.2)) m.from;
        best_not = m.best_not;
        none_before = λ z b i s. ⊎_elim (λ t. subst (λ w. before w x ≡ false) (some_is v b (sym e ∙ ap f (sym t) ∙ s)) (order.trans v u x lt (m.best_not u refl))) (λ j. m.none_before z b j s) i;
      }

  pub first_some : (best : Option A) (xs : List X) (x : A) → first_by before f best xs ≡ Some x → First before f best xs x
  first_some best [] x e = record { from = inl e; best_not = λ b s. subst (λ z. before b z ≡ false) (some_is b x (sym s ∙ e)) (order.self b); none_before = λ y b i s. absurd i }
  first_some best (y ∷ ys) x e = step best (f y) y ys x refl (first_some (first_of before best (f y)) ys x e)

  none_step : (best o : Option A) → first_of before best o ≡ None → (best ≡ None) × (o ≡ None)
  none_step best None e = (e, refl)
  none_step None (Some v) e = cc e
  none_step (Some u) (Some v) e = cc e

  -- or there is none
  pub first_none : (best : Option A) (xs : List X) → first_by before f best xs ≡ None → (best ≡ None) × ((y : X) → IsIn y xs → f y ≡ None)
  first_none best [] e = (e, λ y i. absurd i)
  first_none best (y ∷ ys) e =
      let rest = first_none (first_of before best (f y)) ys e in
      let here = none_step best (f y) rest.0 in
      (here.0, λ z i. ⊎_elim (λ t. ap f t ∙ here.1) (λ j. rest.1 z j) i)

  -- what one of them gives is not before the first
  pub first_leaves : (best : Option A) (xs : List X) (y : X) (v : A) → IsIn y xs → f y ≡ Some v → (x : A) × (first_by before f best xs ≡ Some x) × (before v x ≡ false)
  first_leaves best xs y v i e = go (first_by before f best xs) refl
    where
      go : (o : Option A) → first_by before f best xs ≡ o → (x : A) × (first_by before f best xs ≡ Some x) × (before v x ≡ false)
      go None n = absurd (cc (sym e ∙ (first_none best xs n).1 y i))
      go (Some x) s = (x, s, (first_some best xs x s).none_before y v i e)

  pub first_keeps : (xs : List X) (v : A) → (x : A) × (first_by before f (Some v) xs ≡ Some x) × (before v x ≡ false)
  first_keeps xs v = go (first_by before f (Some v) xs) refl
    where
      go : (o : Option A) → first_by before f (Some v) xs ≡ o → (x : A) × (first_by before f (Some v) xs ≡ Some x) × (before v x ≡ false)
      go None n = absurd (cc ((first_none (Some v) xs n).0))
      go (Some x) s = (x, s, (first_some (Some v) xs x s).best_not v refl)

-- the first of a list with one more
pub first_more : {X A : Type 0} (before : A → A → Bool) (f : X → Option A) (best : Option A) (xs : List X) (x : X) → first_by before f best (xs ++ x ∷ []) ≡ first_of before (first_by before f best xs) (f x)
first_more before f best [] x = refl
first_more before f best (y ∷ ys) x = first_more before f (first_of before best (f y)) ys x

-- elements that give the same
pub first_same : {X A : Type 0} (before : A → A → Bool) (f g : X → Option A) (best : Option A) (xs : List X) → ((x : X) → IsIn x xs → f x ≡ g x) → first_by before f best xs ≡ first_by before g best xs
first_same before f g best [] e = refl
first_same before f g best (x ∷ xs) e = ap (λ o. first_by before f (first_of before best o) xs) (e x (inl refl)) ∙ first_same before f g (first_of before best (g x)) xs (λ y i. e y (inr i))
