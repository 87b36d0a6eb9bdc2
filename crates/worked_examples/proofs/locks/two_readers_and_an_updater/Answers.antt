-- Computed.
use Rattle.std.proofs.Common.{refl}
use Rattle.std.specs.Fmt.{digits}
use Rattle.csv.specs.Writing.{escaped, fields_text, is_blank}
use Rattle.worked_examples.proofs.locks.two_readers_and_an_updater.Goals as goal

pub returns : goal.returns
unfolding digits escaped fields_text is_blank
returns c = record { report = refl }
