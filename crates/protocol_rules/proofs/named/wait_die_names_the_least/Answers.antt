-- The laws are lemmas.
use Rattle.protocol_rules.proofs.Causes.{younger_where, younger_first}
use Rattle.protocol_rules.proofs.named.wait_die_names_the_least.Goals as goal

pub returns : goal.returns
returns c = record { refuses = younger_where; least = younger_first }
