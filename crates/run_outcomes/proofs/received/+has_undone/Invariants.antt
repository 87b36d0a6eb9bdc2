use Rattle.std.proofs.Common.{length}
use Rattle.run_outcomes.proofs.received.+has_undone.Given as goal

abbrev pub decreases-has_undone : goal.decreases-has_undone
decreases-has_undone l = length l.messages.now
