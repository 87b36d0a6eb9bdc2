use Rattle.std.proofs.Common.{length}
use Rattle.run_outcomes.proofs.ballots.+has_voted.Given as goal

abbrev pub decreases-has_voted : goal.decreases-has_voted
decreases-has_voted l = length l.ballots.now
