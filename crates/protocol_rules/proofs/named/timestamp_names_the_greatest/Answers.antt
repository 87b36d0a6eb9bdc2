-- The laws are lemmas.
use Rattle.protocol_rules.proofs.Causes.{written_first, read_later_first}
use Rattle.protocol_rules.proofs.named.timestamp_names_the_greatest.Goals as goal

pub returns : goal.returns
returns c = record { written = written_first; read = read_later_first }
