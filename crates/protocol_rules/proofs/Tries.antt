-- Trying one after another: who is granted is stopped by none, and who is not is stopped by one.
use Rattle.std.proofs.Common.{◌≡◌, ◌⊎◌, List, [], ◌∷◌, Bool, true, false, cond, refl, sym, ap, ◌∙◌, inl, inr, ⊎_elim, true≢false}
use Rattle.std.specs.List.{list_any}
use Rattle.deneva_base.specs.Lists.{IsIn}
use Rattle.protocol_rules.specs.History.{Asked}
use Rattle.deneva_base.proofs.Membership.{any_tells, any_found, any_at}
use Rattle.protocol_rules.proofs.Sorts.{Distinct}
use Rattle.protocol_rules.specs.Order.{Sorted}
use Rattle.protocol_rules.specs.Trying.{tried}

pub none_passes : {A : Type 0} (p : A → Bool) (xs : List A) → list_any p xs ≡ false → (x : A) → IsIn x xs → p x ≡ false
none_passes {A} p xs e x i = ⊎_elim (λ (f : (y : A) × IsIn y xs × (p y ≡ true)). absurd (true≢false (sym (any_at p f.0 xs f.1 f.2) ∙ e))) (λ f. f x i) (any_tells p xs)

module _ (stops : Asked → Asked → Bool) where
  next_in : (x a : Asked) (held as' : List Asked) (b : Bool) → ((held : List Asked) → IsIn x (tried stops held as') → IsIn x as') → IsIn x (cond b (tried stops held as') (a ∷ tried stops (a ∷ held) as')) → IsIn x (a ∷ as')
  next_in x a held as' true next i = inr (next held i)
  next_in x a held as' false next i = ⊎_elim (λ e. inl e) (λ t. inr (next (a ∷ held) t)) i

  pub tried_in : (x : Asked) (as' held : List Asked) → IsIn x (tried stops held as') → IsIn x as'
  tried_in x [] held i = i
  tried_in x (a ∷ as') held i = next_in x a held as' (list_any (stops a) held) (tried_in x as') i

  next_distinct : (a : Asked) (held as' : List Asked) (b : Bool) → (IsIn a as' → ⊥) → ((held : List Asked) → Distinct (tried stops held as')) → Distinct (cond b (tried stops held as') (a ∷ tried stops (a ∷ held) as'))
  next_distinct a held as' true n next = next held
  next_distinct a held as' false n next = ((λ i. n (tried_in a as' (a ∷ held) i)), next (a ∷ held))

  pub tried_distinct : (as' held : List Asked) → Distinct as' → Distinct (tried stops held as')
  tried_distinct [] held d = d
  tried_distinct (a ∷ as') held d = next_distinct a held as' (list_any (stops a) held) d.0 (λ hs. tried_distinct as' hs d.1)

  -- each is granted, or stopped by one that holds or was granted
  next_either : (a x : Asked) (held as' : List Asked) (b : Bool) → list_any (stops a) held ≡ b
      → ((held : List Asked) → IsIn x as' → IsIn x (tried stops held as') ⊎ ((y : Asked) × (IsIn y held ⊎ IsIn y (tried stops held as')) × (stops x y ≡ true)))
      → (x ≡ a) ⊎ IsIn x as'
      → IsIn x (cond b (tried stops held as') (a ∷ tried stops (a ∷ held) as')) ⊎ ((y : Asked) × (IsIn y held ⊎ IsIn y (cond b (tried stops held as') (a ∷ tried stops (a ∷ held) as'))) × (stops x y ≡ true))
  next_either a x held as' true e next i = ⊎_elim (λ s. let f = any_found (stops a) held e in inr (f.0, inl f.1, ap (λ z. stops z f.0) s ∙ f.2)) (λ t. next held t) i
  next_either a x held as' false e next i =
      ⊎_elim
      (λ s. inl (inl s))
      (λ t. ⊎_elim (λ j. inl (inr j)) (λ f. inr (f.0, ⊎_elim (λ g. ⊎_elim (λ s. inr (inl s)) (λ r. inl r) g) (λ g. inr (inr g)) f.1, f.2)) (next (a ∷ held) t))
      i

  pub tried_either : (x : Asked) (as' held : List Asked) → IsIn x as' → IsIn x (tried stops held as') ⊎ ((y : Asked) × (IsIn y held ⊎ IsIn y (tried stops held as')) × (stops x y ≡ true))
  tried_either x [] held i = absurd i
  tried_either x (a ∷ as') held i = next_either a x held as' (list_any (stops a) held) refl (tried_either x as') i

  pub tried_left : (x : Asked) (as' held : List Asked) → IsIn x as' → (IsIn x (tried stops held as') → ⊥) → (y : Asked) × (IsIn y held ⊎ IsIn y (tried stops held as')) × (stops x y ≡ true)
  tried_left x as' held i n = ⊎_elim (λ j. absurd (n j)) (λ f. f) (tried_either x as' held i)

  next_sorted : (before : Asked → Asked → Bool) (a : Asked) (held as' : List Asked) (b : Bool) → ((z : Asked) → IsIn z as' → before a z ≡ true) → ((held : List Asked) → Sorted before (tried stops held as')) → Sorted before (cond b (tried stops held as') (a ∷ tried stops (a ∷ held) as'))
  next_sorted before a held as' true s next = next held
  next_sorted before a held as' false s next = ((λ z i. s z (tried_in z as' (a ∷ held) i)), next (a ∷ held))

  pub tried_sorted : (before : Asked → Asked → Bool) (as' held : List Asked) → Sorted before as' → Sorted before (tried stops held as')
  tried_sorted before [] held s = s
  tried_sorted before (a ∷ as') held s = next_sorted before a held as' (list_any (stops a) held) s.0 (λ hs. tried_sorted before as' hs s.1)

  -- who is granted is stopped by none, if nobody is stopped by one that is tried later
  module _ (before : Asked → Asked → Bool) (later : (a b : Asked) → before a b ≡ true → stops a b ≡ false) (self : (a : Asked) → stops a a ≡ false) where
    next_free : (a x y : Asked) (held as' : List Asked) (b : Bool) → list_any (stops a) held ≡ b
        → ((z : Asked) → IsIn z as' → before a z ≡ true)
        → ((held : List Asked) → IsIn x (tried stops held as') → IsIn y held ⊎ IsIn y (tried stops held as') → stops x y ≡ false)
        → IsIn x (cond b (tried stops held as') (a ∷ tried stops (a ∷ held) as'))
        → IsIn y held ⊎ IsIn y (cond b (tried stops held as') (a ∷ tried stops (a ∷ held) as'))
        → stops x y ≡ false
    next_free a x y held as' true e s next i j = next held i j
    next_free a x y held as' false e s next i j =
        ⊎_elim
        (λ (is : x ≡ a). ap (λ z. stops z y) is ∙ ⊎_elim
        (λ g. none_passes (stops a) held e y g)
        (λ g. ⊎_elim (λ t. ap (stops a) t ∙ self a) (λ t. later a y (s y (tried_in y as' (a ∷ held) t))) g)
        j)
        (λ t. next (a ∷ held) t (⊎_elim (λ g. inl (inr g)) (λ g. ⊎_elim (λ r. inl (inl r)) (λ r. inr r) g) j))
        i

    pub tried_free : (x y : Asked) (as' held : List Asked) → Sorted before as' → IsIn x (tried stops held as') → IsIn y held ⊎ IsIn y (tried stops held as') → stops x y ≡ false
    tried_free x y [] held s i j = absurd i
    tried_free x y (a ∷ as') held s i j = next_free a x y held as' (list_any (stops a) held) refl s.0 (λ hs. tried_free x y as' hs s.1) i j
