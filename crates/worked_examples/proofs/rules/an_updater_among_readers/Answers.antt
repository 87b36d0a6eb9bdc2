-- Computed.
use Rattle.std.proofs.Common.{refl}
use Rattle.worked_examples.proofs.rules.an_updater_among_readers.Goals as goal

pub returns : goal.returns
returns c = record { answers = refl; waiting = refl }
