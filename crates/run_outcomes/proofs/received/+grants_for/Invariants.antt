use Rattle.std.proofs.Common.{length}
use Rattle.run_outcomes.proofs.received.+grants_for.Given as goal

abbrev pub decreases-grants_for : goal.decreases-grants_for
decreases-grants_for l = length l.messages.now
