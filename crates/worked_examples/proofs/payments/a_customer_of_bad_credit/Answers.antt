-- Computed.
use Rattle.std.proofs.Common.{refl}
use Rattle.std.specs.Fmt.{digits}
use Rattle.csv.specs.Writing.{escaped, fields_text, is_blank}
use Rattle.worked_examples.proofs.payments.a_customer_of_bad_credit.Goals as goal

pub returns : goal.returns
unfolding digits escaped fields_text is_blank
returns c = record { valid = refl; no_wait = refl; calvin = refl }
