-- Computed.
use Rattle.std.proofs.Common.{refl}
use Rattle.std.specs.Fmt.{digits}
use Rattle.csv.specs.Writing.{escaped, fields_text, is_blank}
use Rattle.worked_examples.proofs.stamps.an_old_read.Goals as goal

pub returns : goal.returns
unfolding digits escaped fields_text is_blank
returns c = record { timestamp = refl; mvcc = refl }
