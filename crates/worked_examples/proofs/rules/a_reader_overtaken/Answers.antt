-- Computed.
use Rattle.std.proofs.Common.{refl}
use Rattle.worked_examples.proofs.rules.a_reader_overtaken.Goals as goal

pub returns : goal.returns
returns c = record { answers = refl }
