-- What is in flight is determined by the history.
use Rattle.std.proofs.Common.{◌≡◌, List, [], ◌∷◌, ◌++◌, refl, sym, ap, ◌∙◌, subst, inl, inr}
use Rattle.deneva_base.specs.Lists.{IsIn}
use Rattle.server_core.specs.declared.messages.Mail.{Mail}
use Rattle.server_core.specs.declared.messages.Entry.{Entry}
use Rattle.server_core.specs.Runs.{Saying, heard, Reaches, Step}

-- the first m cuts a list in one way
one_cut : (m : Mail) (f b g c : List Mail) → f ++ m ∷ b ≡ g ++ m ∷ c → (IsIn m f → ⊥) → (IsIn m g → ⊥) → (f ≡ g) × (b ≡ c)
one_cut m [] b [] c e h k = let same : b ≡ c = cc in (refl, same)
one_cut m [] b (y ∷ g) c e h k = let is : m ≡ y = cc in absurd (k (inl is))
one_cut m (x ∷ f) b [] c e h k = let is : m ≡ x = cc in absurd (h (inl is))
one_cut m (x ∷ f) b (y ∷ g) c e h k =
    let is : x ≡ y = cc in
    let rest : f ++ m ∷ b ≡ g ++ m ∷ c = cc in
    let n = one_cut m f b g c rest (λ i. h (inr i)) (λ i. k (inr i)) in
    ((λ i. is i ∷ n.0 i), n.1)

pub one_flight : (says : Saying) (opening : List Mail) (H : List Entry) (flight other : List Mail) → Reaches says opening H flight → Reaches says opening H other → flight ≡ other
one_flight says opening [] flight other r q = r ∙ sym q
one_flight says opening (e ∷ H) flight other r q =
    let same : r.0 ≡ q.0 = one_flight says opening H r.0 q.0 r.4 q.4 in
    let mail : r.1 ≡ q.1 = ap (λ (z : Entry). record { from = z.from; to = z.node; msg = z.msg }) (sym r.2 ∙ q.2) in
    let st : Step r.0 other r.1 (says r.1.to (r.1.msg ∷ heard r.1.to H)) = subst (λ z. Step r.0 other z (says z.to (z.msg ∷ heard z.to H))) (sym mail) (subst (λ z. Step z other q.1 (says q.1.to (q.1.msg ∷ heard q.1.to H))) (sym same) q.3) in
    let c = one_cut r.1 r.3.front r.3.back st.front st.back (sym r.3.stood ∙ st.stood) r.3.first st.first in
    r.3.left ∙ ap (λ l. (l ++ r.3.back) ++ says r.1.to (r.1.msg ∷ heard r.1.to H)) c.0 ∙ ap (λ l. (st.front ++ l) ++ says r.1.to (r.1.msg ∷ heard r.1.to H)) c.1 ∙ sym st.left
