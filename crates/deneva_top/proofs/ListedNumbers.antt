-- All values of a list of parts, read one after another.
use Rattle.std.proofs.Common.{◌≡◌, ◌∙◌, ◌+◌, ◌<◌, ◌≤◌, ℕ, List, [], ◌∷◌, ◌++◌, map, length, get_or, drop, Option, Some, None, refl, ap, sym, append_assoc, append-nil}
use Rattle.std.specs.Prelude.{option_map, option_and_then}
use Rattle.std.proofs.lemmas.List.{at_drop_more, at_drop_all}
use Rattle.deneva_top.specs.Words.{all_of}

-- the values so far, and those of the parts that are left
abbrev pub onto : {X A : Type 0} → (X → Option A) → List A → List X → Option (List A)
onto f done left = option_map (λ more. done ++ more) (all_of (map f left))

put_before : {A : Type 0} (done : List A) (y : A) (left : Option (List A)) → option_map (λ more. done ++ more) (option_and_then (λ more. Some (y ∷ more)) left) ≡ option_map (λ more. (done ++ y ∷ []) ++ more) left
put_before done y None = refl
put_before done y (Some more) = ap Some (sym (append_assoc done (y ∷ []) more))

onto_nothing : {A : Type 0} (left : Option (List A)) → option_map (λ more. [] ++ more) left ≡ left
onto_nothing None = refl
onto_nothing (Some more) = refl

pub none_yet : {X A : Type 0} (f : X → Option A) (parts : List X) → onto f [] parts ≡ all_of (map f parts)
none_yet f parts = onto_nothing (all_of (map f parts))

pub one_more : {X A : Type 0} (f : X → Option A) (done : List A) (parts : List X) (i : ℕ) (d : X) (y : A) → i < length parts → f (get_or parts i d) ≡ Some y → onto f done (drop i parts) ≡ onto f (done ++ y ∷ []) (drop (i + 1) parts)
one_more f done parts i d y h e =
    let next : onto f done (drop i parts) ≡ option_map (λ more. done ++ more) (option_and_then (λ x. option_and_then (λ more. Some (x ∷ more)) (all_of (map f (drop (i + 1) parts)))) (f (get_or parts i d))) = at_drop_more (onto f done) parts i d h in
    next ∙ rw e (put_before done y (all_of (map f (drop (i + 1) parts))))

pub one_fails : {X A : Type 0} (f : X → Option A) (done : List A) (parts : List X) (i : ℕ) (d : X) → i < length parts → f (get_or parts i d) ≡ None → onto f done (drop i parts) ≡ None
one_fails f done parts i d h e =
    let next : onto f done (drop i parts) ≡ option_map (λ more. done ++ more) (option_and_then (λ x. option_and_then (λ more. Some (x ∷ more)) (all_of (map f (drop (i + 1) parts)))) (f (get_or parts i d))) = at_drop_more (onto f done) parts i d h in
    next ∙ rw e refl

pub all_done : {X A : Type 0} (f : X → Option A) (done : List A) (parts : List X) (i : ℕ) → length parts ≤ i → onto f done (drop i parts) ≡ Some done
all_done f done parts i h = at_drop_all (onto f done) parts i h ∙ ap Some (append-nil done)
