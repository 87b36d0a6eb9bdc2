use Rattle.std.proofs.Common.{◌≡◌, drop}
use Rattle.range_control.specs.Accesses.{left_by}
use Rattle.range_control.specs.Ends.{first_by, upper_before}
use Rattle.range_control.proofs.accesses.KeyAccesses.upper_of.Given as goal

-- the least so far with those that are left
abbrev pub invariant-loop-held : goal.invariant-loop-held
invariant-loop-held l = first_by upper_before (left_by l.own.who l.own.version) l.best (drop l.held-index l.self.held) ≡ first_by upper_before (left_by l.own.who l.own.version) l.own.upper l.self.held
