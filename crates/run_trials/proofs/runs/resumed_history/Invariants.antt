use Rattle.std.proofs.Common.{◌≡◌}
use Rattle.run_trials.proofs.runs.resumed_history.Given as goal

-- it is a world of this configuration and this workload
abbrev pub invariant-loop : goal.invariant-loop
invariant-loop g l = record { config : l.world.config ≡ l.config; work : l.world.work ≡ l.work }
