-- Computed.
use Rattle.std.proofs.Common.{refl}
use Rattle.worked_examples.proofs.rules.a_put_over_a_waiting_read.Goals as goal

pub returns : goal.returns
returns c = record { answers = refl; row = refl }
