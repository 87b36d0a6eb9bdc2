use Rattle.std.proofs.Common.{length}
use Rattle.run_outcomes.proofs.received.+votes_for.Given as goal

abbrev pub decreases-votes_for : goal.decreases-votes_for
decreases-votes_for l = length l.messages.now
