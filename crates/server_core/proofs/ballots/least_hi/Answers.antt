use Rattle.std.proofs.Common.{arith}
use Rattle.server_core.proofs.Windows.{least_small}
use Rattle.server_core.proofs.ballots.least_hi.Goals as goal

pub loop-ballot-init : goal.loop-ballot-init
loop-ballot-init c = record { least = omega (arith, least_small c.args.ballots.now); bound = omega arith }
