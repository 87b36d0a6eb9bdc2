-- Two steps of a stream, one after the other, for callers that loop.
use Rattle.std.proofs.Common.{◌≡◌, ℕ, ◌+◌, ◌-◌, Some, None, List, ◌++◌, length, take, drop, ap, sym, ◌∙◌, append_assoc, subst, arith, length-drop}
use Rattle.std.specs.Prelude.{Option}
use Rattle.std.proofs.lemmas.List.{take_all}
use Rattle.std.proofs.Math.Seq.{take-add}
use Rattle.deneva_io.specs.Streams.{Gives, Grew}

pub gives_then : (a b c : Option (List ℕ)) (bs cs : List ℕ) → Gives a b bs → Gives b c cs → Gives a c (bs ++ cs)
gives_then None b c bs cs p q = tt
gives_then (Some xs) None c bs cs p q = absurd p
gives_then (Some xs) (Some ys) None bs cs p q = absurd q
gives_then (Some xs) (Some ys) (Some zs) bs cs p q = p ∙ ap (λ l. bs ++ l) q ∙ sym (append_assoc bs cs zs)

pub grew_then : (a b c : Option (List ℕ)) (bs cs : List ℕ) → Grew a b bs → Grew b c cs → Grew a c (bs ++ cs)
grew_then a b None bs cs p q = tt
grew_then a None (Some zs) bs cs p q = absurd q
grew_then None (Some ys) (Some zs) bs cs p q = absurd p
grew_then (Some xs) (Some ys) (Some zs) bs cs p q = q ∙ ap (λ l. l ++ cs) p ∙ append_assoc xs bs cs

-- one more write of what is left of a piece, `&piece[at..]`
pub grew_more : (a b c : Option (List ℕ)) (at n : ℕ) (piece : List ℕ) → Grew a b (take at piece)
    → Grew b c (take n (take (length piece - at) (drop at piece))) → Grew a c (take (at + n) piece)
grew_more a b c at n piece before more =
    let whole : take (length piece - at) (drop at piece) ≡ drop at piece = take_all (length piece - at) (drop at piece) (omega (arith, length-drop at piece)) in
    let joined : take (at + n) piece ≡ take at piece ++ take n (take (length piece - at) (drop at piece)) =
    take-add at n piece ∙ ap (λ l. take at piece ++ take n l) (sym whole) in
    subst (Grew a c) (sym joined) (grew_then a b c _ _ before more)
