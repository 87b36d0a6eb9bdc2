use Rattle.std.proofs.Common.{◌≡◌, drop, eqb}
use Rattle.std.specs.List.{list_all}
use Rattle.coord.proofs.attempts.Attempting.is_last.Given as goal

-- those that are left tell
abbrev pub invariant-loop-other : goal.invariant-loop-other
invariant-loop-other l = list_all (λ q. eqb q l.part) (drop l.other-index l.other-items) ≡ list_all (λ q. eqb q l.part) l.other-items
