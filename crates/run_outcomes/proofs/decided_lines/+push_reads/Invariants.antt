use Rattle.std.proofs.Common.{length}
use Rattle.run_outcomes.proofs.decided_lines.+push_reads.Given as goal

abbrev pub decreases-push_reads : goal.decreases-push_reads
decreases-push_reads l = length l.accesses.now
