use Rattle.std.proofs.Common.{length}
use Rattle.run_outcomes.proofs.received.+has_started.Given as goal

abbrev pub decreases-has_started : goal.decreases-has_started
decreases-has_started l = length l.messages.now
