use Rattle.control_trials.specs.Logs.{HoldsMore}
use Rattle.control_trials.proofs.log.Log.hold.Given as goal

abbrev pub invariant-loop-wake : goal.invariant-loop-wake
invariant-loop-wake l = HoldsMore l.fn.self l.woken l.self
