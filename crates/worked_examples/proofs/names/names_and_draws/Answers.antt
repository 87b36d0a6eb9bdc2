-- Computed.
use Rattle.std.proofs.Common.{refl}
use Rattle.std.specs.Fmt.{digits}
use Rattle.worked_examples.proofs.names.names_and_draws.Goals as goal

pub returns : goal.returns
unfolding digits
returns c = record { name = refl; plain = refl; wrapped = refl }
