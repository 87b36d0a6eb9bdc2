use Rattle.std.proofs.Common.{◌≡◌, map, take}
use Rattle.node_trials.specs.Works.{trial_step}
use Rattle.node_trials.proofs.works.program.Given as goal

abbrev pub invariant-loop-key : goal.invariant-loop-key
invariant-loop-key l = l.steps ≡ map trial_step (take l.key-index l.keys)
