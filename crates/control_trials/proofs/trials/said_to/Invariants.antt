use Rattle.control_trials.specs.Trials.{IsKept}
use Rattle.control_trials.proofs.trials.said_to.Given as goal

abbrev pub invariant-loop-step : goal.invariant-loop-step
invariant-loop-step g l = IsKept (g.C.Control.stands l.control) l.log
