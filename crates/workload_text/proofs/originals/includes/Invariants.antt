use Rattle.std.proofs.Common.{◌≡◌, length}
use Rattle.tpcc_rules.specs.NewOrders.{includes}
use Rattle.workload_text.proofs.originals.includes.Given as goal

-- the needle begins at no place so far
abbrev pub invariant-loop-rest : goal.invariant-loop-rest
invariant-loop-rest l = includes l.needle l.rest ≡ includes l.needle l.bytes

abbrev pub decreases-loop-rest : goal.decreases-loop-rest
decreases-loop-rest l = length l.rest
