use Rattle.std.proofs.Common.{length}
use Rattle.run_outcomes.proofs.received.+all_undone.Given as goal

abbrev pub decreases-all_undone : goal.decreases-all_undone
decreases-all_undone l = length l.parts.now
