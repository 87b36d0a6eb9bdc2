use Rattle.std.proofs.Common.{◌≡◌, ◌++◌, map, take, drop}
use Rattle.range_control.specs.Accesses.{prepared_in}
use Rattle.range_control.proofs.accesses.KeyAccesses.prepare.Given as goal

-- those so far are prepared
abbrev pub invariant-loop-held : goal.invariant-loop-held
invariant-loop-held l = l.held-items ≡ map (prepared_in l.who l.window) (take l.held-index l.initial.held-items) ++ drop l.held-index l.initial.held-items
