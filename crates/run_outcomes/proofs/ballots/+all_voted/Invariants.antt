use Rattle.std.proofs.Common.{length}
use Rattle.run_outcomes.proofs.ballots.+all_voted.Given as goal

abbrev pub decreases-all_voted : goal.decreases-all_voted
decreases-all_voted l = length l.parts.now
