-- One step of the loops of this crate.
use Rattle.std.proofs.Common.{◌≡◌, ℕ, ◌+◌, ◌<◌, List, ◌++◌, map, take, drop, length, get_or, slice_set, ap, ◌∙◌, arith}
use Rattle.std.proofs.lemmas.List.{get_or_default}
use Rattle.std.proofs.lemmas.List.Edits.{map_over_more}
use Rattle.range_control.specs.declared.accesses.Held.{Held}

-- one more access is changed in place
pub set_step : (f : Held → Held) (xs ys : List Held) (n : ℕ) (d r : Held) → n < length xs → length ys ≡ length xs → ys ≡ map f (take n xs) ++ drop n xs → r ≡ f (get_or ys n d) → slice_set ys n r ≡ map f (take (n + 1) xs) ++ drop (n + 1) xs
set_step f xs ys n d r less same is e =
    ap (slice_set ys n) e ∙ map_over_more f xs ys n (get_or ys n d) less is (get_or_default ys n d (get_or ys n d) (omega (arith, less, same)))
