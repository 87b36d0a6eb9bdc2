use Rattle.std.proofs.Common.{length}
use Rattle.run_outcomes.proofs.decided_lines.+committed_n.Given as goal

abbrev pub decreases-committed_n : goal.decreases-committed_n
decreases-committed_n l = length l.entries.now
