-- The laws are lemmas.
use Rattle.protocol_rules.proofs.Causes.{held_where, held_first}
use Rattle.protocol_rules.proofs.named.no_wait_names_the_least.Goals as goal

pub returns : goal.returns
returns c = record { refuses = held_where; least = held_first }
