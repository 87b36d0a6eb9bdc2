use Rattle.std.proofs.Common.{length}
use Rattle.tpcc_rules.proofs.columns.+fits_all.Given as goal

-- each call has a column less
abbrev pub decreases-fits_all : goal.decreases-fits_all
decreases-fits_all l = length l.columns.now
