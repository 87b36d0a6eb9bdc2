-- Computed.
use Rattle.std.proofs.Common.{refl}
use Rattle.std.specs.Fmt.{digits}
use Rattle.csv.specs.Writing.{escaped, fields_text, is_blank}
use Rattle.worked_examples.proofs.ordered.crossing_transactions_in_a_global_order.Goals as goal

pub returns : goal.returns
unfolding digits escaped fields_text is_blank
returns c = record { fifo = refl; lifo = refl }
