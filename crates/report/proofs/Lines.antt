-- The text of records, piece by piece.
use Rattle.std.proofs.Common.{◌≡◌, ◌∙◌, ℕ, List, [], ◌∷◌, ◌++◌, refl, ap, sym, append_assoc, append-nil}
use Rattle.std.specs.List.{join_with_byte, flat_map}
use Rattle.records.specs.Records.{Record, line_of, text_of}

-- the first piece, and each other behind the byte that joins them
pub joined : (c : ℕ) (w : List ℕ) (more : List (List ℕ)) → join_with_byte c (w ∷ more) ≡ w ++ flat_map (λ bytes. c ∷ bytes) more
joined c w [] = sym (append-nil w)
joined c w (f ∷ more) = ap (λ (t : List ℕ). w ++ c ∷ t) (joined c f more)

pub text_of-append : (rs more : List Record) → text_of (rs ++ more) ≡ text_of rs ++ text_of more
text_of-append [] more = refl
text_of-append (r ∷ rs) more = ap (λ (t : List ℕ). line_of r ++ t) (text_of-append rs more) ∙ sym (append_assoc (line_of r) (text_of rs) (text_of more))

-- the text of several lists of records, one list after another
pub text_of-flat : {X : Type 0} (f : X → List Record) (xs : List X) → text_of (flat_map f xs) ≡ flat_map (λ x. text_of (f x)) xs
text_of-flat f [] = refl
text_of-flat f (x ∷ xs) = text_of-append (f x) (flat_map f xs) ∙ ap (λ (t : List ℕ). text_of (f x) ++ t) (text_of-flat f xs)

-- a last record at the end of a text
text_of-last : (rs : List Record) (last : Record) → text_of (rs ++ last ∷ []) ≡ text_of rs ++ line_of last
text_of-last rs last = text_of-append rs (last ∷ []) ∙ ap (λ (t : List ℕ). text_of rs ++ t) (append-nil (line_of last))

-- the text of a first record, of four lists of records and of a last record
pub text_of-parts : (head : Record) (as1 as2 as3 as4 : List Record) (last : Record)
    → text_of (head ∷ as1 ++ as2 ++ as3 ++ as4 ++ last ∷ []) ≡ line_of head ++ text_of as1 ++ text_of as2 ++ text_of as3 ++ text_of as4 ++ line_of last
text_of-parts head as1 as2 as3 as4 last =
    text_of-last (head ∷ as1 ++ as2 ++ as3 ++ as4) last
    ∙ ap (λ (t : List ℕ). t ++ line_of last)
    (text_of-append (head ∷ as1 ++ as2 ++ as3) as4
    ∙ ap (λ (t : List ℕ). t ++ text_of as4)
    (text_of-append (head ∷ as1 ++ as2) as3
    ∙ ap (λ (t : List ℕ). t ++ text_of as3) (text_of-append (head ∷ as1) as2)))
