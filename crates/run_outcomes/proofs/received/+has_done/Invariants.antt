use Rattle.std.proofs.Common.{length}
use Rattle.run_outcomes.proofs.received.+has_done.Given as goal

abbrev pub decreases-has_done : goal.decreases-has_done
decreases-has_done l = length l.messages.now
