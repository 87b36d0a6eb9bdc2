use Rattle.std.proofs.Common.{length}
use Rattle.run_outcomes.proofs.received.+all_done.Given as goal

abbrev pub decreases-all_done : goal.decreases-all_done
decreases-all_done l = length l.parts.now
