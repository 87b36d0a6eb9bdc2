-- Computed.
use Rattle.std.proofs.Common.{refl}
use Rattle.std.specs.Fmt.{digits}
use Rattle.worked_examples.proofs.payments.sums_at_their_ends.Goals as goal

pub returns : goal.returns
unfolding digits
returns c = record { most = refl; above = refl; least = refl; below = refl }
