use Rattle.control_trials.specs.Trials.{IsKept}
use Rattle.control_trials.proofs.trials.agrees.Given as goal

abbrev pub invariant-loop : goal.invariant-loop
invariant-loop g l = IsKept (g.C.Control.stands l.control) l.log
