-- Computed.
use Rattle.std.proofs.Common.{refl}
use Rattle.worked_examples.proofs.rules.a_put_holds_its_key.Goals as goal

pub returns : goal.returns
returns c = record { answers = refl }
