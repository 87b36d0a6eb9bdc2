-- What closes all participants closes each.
use Rattle.std.proofs.Common.{◌≡◌, ℕ, List, [], ◌∷◌, true, eqb, refl, sym, ◌∙◌, subst, inl, inr, ⊎_elim, arith}
use Rattle.std.specs.List.{list_any, flat_map}
use Rattle.std.proofs.lemmas.Bool.Decides.{nat_tests}
use Rattle.deneva_base.specs.Lists.{IsIn}
use Rattle.deneva_base.proofs.Membership.{in_left, in_right, in_cases, any_found, and_parts}
use Rattle.server_core.specs.Received.{all_closed}

pub flat_in : {A B : Type 0} (f : A → List B) (xs : List A) (x : A) (y : B) → IsIn x xs → IsIn y (f x) → IsIn y (flat_map f xs)
flat_in f [] x y i j = absurd i
flat_in f (z ∷ xs) x y i j = ⊎_elim (λ e. in_left y (f z) (flat_map f xs) (subst (λ w. IsIn y (f w)) e j)) (λ r. in_right y (f z) (flat_map f xs) (flat_in f xs x y r j)) i

pub in_flat : {A B : Type 0} (f : A → List B) (xs : List A) (y : B) → IsIn y (flat_map f xs) → (x : A) × IsIn x xs × IsIn y (f x)
in_flat f [] y i = absurd i
in_flat f (z ∷ xs) y i = ⊎_elim (λ a. (z, inl refl, a)) (λ b. let n = in_flat f xs y b in (n.0, inr n.1, n.2)) (in_cases y (f z) (flat_map f xs) i)

pub closed_there : (cs qs : List ℕ) (q : ℕ) → all_closed cs qs ≡ true → IsIn q qs → IsIn q cs
closed_there cs [] q e i = absurd i
closed_there cs (x ∷ qs) q e i =
    let b = and_parts (list_any (λ c. eqb c x) cs) (all_closed cs qs) e in
    ⊎_elim
    (λ (is : q ≡ x). let f = any_found (λ c. eqb c x) cs b.0 in subst (λ z. IsIn z cs) (eqb_is f.0 x f.2 ∙ sym is) f.1)
    (λ r. closed_there cs qs q b.1 r)
    i
  where
    eqb_is : (a b : ℕ) → eqb a b ≡ true → a ≡ b
    eqb_is a b e = grind (arith, nat_tests)
