use Rattle.std.proofs.Common.{length}
use Rattle.run_outcomes.proofs.ballots.+least_part.Given as goal

abbrev pub decreases-least_part : goal.decreases-least_part
decreases-least_part l = length l.ballots.now
