use Rattle.std.proofs.Common.{take}
use Rattle.workload_text.proofs.LastNames.{HasNames}
use Rattle.workload_text.proofs.loaded.middles_of.Given as goal

-- the last names of the rows that were passed are there
abbrev pub invariant-loop-row : goal.invariant-loop-row
invariant-loop-row l = HasNames l.middles l.rows (take l.row-index l.rows)
