use Rattle.std.proofs.Common.{◌≡◌, drop}
use Rattle.range_control.specs.Accesses.{own_in}
use Rattle.range_control.proofs.accesses.KeyAccesses.own.Given as goal

-- none of those so far is the attempt's
abbrev pub invariant-loop-held : goal.invariant-loop-held
invariant-loop-held l = own_in l.who (drop l.held-index l.self.held) ≡ own_in l.who l.self.held
