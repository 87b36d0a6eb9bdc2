-- What is found is there.
use Rattle.std.proofs.Common.{◌≡◌, List, [], ◌∷◌, Bool, cond, true, false, Option, Some, None, refl, ap, ◌∙◌}
use Rattle.std.specs.Prelude.{option_map, ◌||◌}
use Rattle.std.specs.List.{find, list_any}
use Rattle.std.specs.Option.{is_some}

-- an item is found where some item passes the test
is_found : {A : Type 0} (p : A → Bool) (xs : List A) → is_some (find p xs) ≡ list_any p xs
is_found p [] = refl
is_found {A} p (x ∷ xs) = go (p x) (is_found p xs)
  where
    go : (b : Bool) → is_some (find p xs) ≡ list_any p xs → is_some (cond b (Some x) (find p xs)) ≡ (b || list_any p xs)
    go true e = refl
    go false e = e

-- the same of one that is lent
pub some_found : {R A : Type 0} (f : R → A) (o : Option R) (p : A → Bool) (xs : List A) → option_map f o ≡ find p xs → is_some o ≡ list_any p xs
some_found f None p xs e = ap is_some e ∙ is_found p xs
some_found f (Some r) p xs e = ap is_some e ∙ is_found p xs
