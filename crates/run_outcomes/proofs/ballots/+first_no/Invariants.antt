use Rattle.std.proofs.Common.{length}
use Rattle.run_outcomes.proofs.ballots.+first_no.Given as goal

abbrev pub decreases-first_no : goal.decreases-first_no
decreases-first_no l = length l.ballots.now
