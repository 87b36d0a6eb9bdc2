-- Computed.
use Rattle.std.proofs.Common.{refl}
use Rattle.std.specs.Fmt.{digits}
use Rattle.worked_examples.proofs.names.stock_is_refilled.Goals as goal

pub returns : goal.returns
unfolding digits
returns c = record { enough = refl; few = refl; all = refl }
