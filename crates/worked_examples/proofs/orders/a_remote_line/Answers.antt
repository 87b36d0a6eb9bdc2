-- Computed.
use Rattle.std.proofs.Common.{refl}
use Rattle.std.specs.Fmt.{digits}
use Rattle.worked_examples.proofs.orders.a_remote_line.Goals as goal

pub returns : goal.returns
unfolding digits
returns c = refl
