-- The laws are lemmas.
use Rattle.protocol_rules.proofs.Causes.{ends_named}
use Rattle.protocol_rules.proofs.Limits.{limited}
use Rattle.protocol_rules.proofs.named.maat_names_its_ends.Goals as goal

pub returns : goal.returns
returns c = record {
  ends = λ span loaded h who bound writes appends lo key hi by e. ends_named h who bound writes span loaded appends lo key hi by e;
  limited = λ span loaded h who bound writes appends lo key hi by short o may e. limited span loaded h who bound writes appends lo key hi by short o may e;
}
