-- Computed.
use Rattle.std.proofs.Common.{refl}
use Rattle.std.specs.Fmt.{digits}
use Rattle.worked_examples.proofs.names.the_middle_namesake.Goals as goal

pub returns : goal.returns
unfolding digits
returns c = record { one = refl; two = refl; three = refl; alike = refl; none = refl }
