use Rattle.std.proofs.Common.{length}
use Rattle.run_outcomes.proofs.ordered.+has_finished.Given as goal

abbrev pub decreases-has_finished : goal.decreases-has_finished
decreases-has_finished l = length l.messages.now
