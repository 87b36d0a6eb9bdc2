use Rattle.std.proofs.Common.{◌≡◌, ◌++◌, map}
use Rattle.run_outcomes.specs.SerialOutcome.{decided_serially}
use Rattle.run_outcomes.proofs.serial.all_decided.Given as goal

-- those done, and those left
abbrev pub invariant-loop-txn : goal.invariant-loop-txn
invariant-loop-txn l = l.list ++ map decided_serially l.txn-iterator.rest.items ≡ map decided_serially l.fn.runs
