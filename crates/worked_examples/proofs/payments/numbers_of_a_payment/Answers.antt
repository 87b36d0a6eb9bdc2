-- Computed.
use Rattle.std.proofs.Common.{refl}
use Rattle.std.specs.Fmt.{digits}
use Rattle.worked_examples.proofs.payments.numbers_of_a_payment.Goals as goal

pub returns : goal.returns
unfolding digits
returns c = refl
