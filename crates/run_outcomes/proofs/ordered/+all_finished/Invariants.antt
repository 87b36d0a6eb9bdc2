use Rattle.std.proofs.Common.{length}
use Rattle.run_outcomes.proofs.ordered.+all_finished.Given as goal

abbrev pub decreases-all_finished : goal.decreases-all_finished
decreases-all_finished l = length l.parts.now
