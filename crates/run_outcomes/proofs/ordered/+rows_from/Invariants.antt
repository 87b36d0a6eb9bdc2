use Rattle.std.proofs.Common.{length}
use Rattle.run_outcomes.proofs.ordered.+rows_from.Given as goal

abbrev pub decreases-rows_from : goal.decreases-rows_from
decreases-rows_from l = length l.messages.now
