use Rattle.std.proofs.Common.{◌≡◌, ◌∷◌, ◌++◌, map, drop, decimal}
use Rattle.std.specs.List.{flat_map}
use Rattle.report.proofs.fields.extend_parts.Given as goal

-- the text so far, and that of what is left
abbrev pub invariant-loop-number : goal.invariant-loop-number
invariant-loop-number l =
    l.text.items ++ flat_map (λ bytes. 46 ∷ bytes) (map decimal (drop l.number-index l.numbers)) ≡ l.fn.text.items ++ flat_map (λ bytes. 46 ∷ bytes) (map decimal l.numbers)
