-- What is in flight and what was handled are what was in the opening and what was said.
use Rattle.std.proofs.Common.{◌≡◌, ℕ, ◌+◌, ◌≤◌, List, [], ◌∷◌, ◌++◌, Bool, true, false, cond, ◌&&◌, eqb, refl, ap, subst, inl, inr, ⊎_elim, arith}
use Rattle.deneva_base.specs.Lists.{IsIn}
use Rattle.server_core.specs.declared.messages.Mail.{Mail}
use Rattle.server_core.specs.declared.messages.Entry.{Entry}
use Rattle.server_core.specs.Runs.{Saying, heard, Reaches}
use Rattle.server_core.specs.Counts.{count}

pub count-append : (t : Mail → Bool) (xs ys : List Mail) → count t (xs ++ ys) ≡ count t xs + count t ys
count-append t [] ys = omega arith
count-append t (x ∷ xs) ys = omega (arith, count-append t xs ys)

pub count_in : (t : Mail → Bool) (x : Mail) (xs : List Mail) → IsIn x xs → t x ≡ true → 1 ≤ count t xs
count_in t x [] i e = absurd i
count_in t x (y ∷ xs) i e =
    ⊎_elim
    (λ (s : x ≡ y). let e' : t y ≡ true = subst (λ z. t z ≡ true) s e in rw e' (omega arith))
    (λ r. omega (arith, count_in t x xs r e))
    i

pub in_counted : (t : Mail → Bool) (xs : List Mail) → 1 ≤ count t xs → (x : Mail) × IsIn x xs × (t x ≡ true)
in_counted t [] h = absurd (omega arith)
in_counted t (y ∷ xs) h = go (t y) refl (in_counted t xs)
  where
    go : (b : Bool) → t y ≡ b → (1 ≤ count t xs → (x : Mail) × IsIn x xs × (t x ≡ true)) → (x : Mail) × IsIn x (y ∷ xs) × (t x ≡ true)
    go true e next = (y, inl refl, e)
    go false e next =
        let less : 1 ≤ 0 + count t xs = subst (λ z. 1 ≤ cond z 1 0 + count t xs) e h in
        let r = next (omega arith) in
        (r.0, inr r.1, r.2)

-- mails from p, that pass t
abbrev pub from_node : ℕ → (Mail → Bool) → Mail → Bool
from_node p t x = eqb x.from p && t x

-- the mails that were handled
abbrev pub handled : List Entry → List Mail
handled [] = []
handled (e ∷ H) = record { from = e.from; to = e.node; msg = e.msg } ∷ handled H

abbrev pub said_in : Saying → List Entry → List Mail
said_in says [] = []
said_in says (e ∷ H) = says e.node (e.msg ∷ heard e.node H) ++ said_in says H

pub conserved : (says : Saying) (opening : List Mail) (t : Mail → Bool) (H : List Entry) (flight : List Mail) → Reaches says opening H flight → count t flight + count t (handled H) ≡ count t opening + count t (said_in says H)
conserved says opening t [] flight r = rw r (omega arith)
conserved says opening t (e ∷ H) flight r =
    let s = r.3 in
    let m = r.1 in
    let ih = conserved says opening t H r.0 r.4 in
    rw (r.2, s.left)
    (omega (
      arith,
      ih,
      ap (count t) s.stood,
      count-append t s.front (m ∷ s.back),
      count-append t (s.front ++ s.back) (says m.to (m.msg ∷ heard m.to H)),
      count-append t s.front s.back,
      count-append t (says m.to (m.msg ∷ heard m.to H)) (said_in says H),
    ))
