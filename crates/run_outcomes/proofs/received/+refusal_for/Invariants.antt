use Rattle.std.proofs.Common.{length}
use Rattle.run_outcomes.proofs.received.+refusal_for.Given as goal

abbrev pub decreases-refusal_for : goal.decreases-refusal_for
decreases-refusal_for l = length l.messages.now
