-- Computed.
use Rattle.std.proofs.Common.{refl}
use Rattle.std.specs.Fmt.{digits}
use Rattle.csv.specs.Writing.{escaped, fields_text, is_blank}
use Rattle.worked_examples.proofs.plain.no_transaction.Goals as goal

pub returns : goal.returns
unfolding digits escaped fields_text is_blank
returns c = record { no_wait_1 = refl; no_wait_16 = refl; calvin_1 = refl; calvin_16 = refl }
