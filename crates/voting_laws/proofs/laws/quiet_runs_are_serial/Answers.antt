-- The laws are lemmas.
use Rattle.std.proofs.Common.{sym, subst}
use Rattle.protocol_rules.specs.Waits.{WaitsLaw}
use Rattle.server_core.specs.Setting.{chosen_or_none}
use Rattle.voting_laws.proofs.Voted.{serial, decided, rows}
use Rattle.voting_laws.proofs.laws.quiet_runs_are_serial.Goals as goal

pub returns : goal.returns
returns c = record {
  law = λ c w o H is valid v l run all. serial c w o is v l valid H run all;
  waits = λ c w o H is valid v l waits run. serial c w o is v l valid H run (decided c w o is v l H (subst (λ z. WaitsLaw (chosen_or_none z).rule) (sym is) waits) run);
  rows = λ c w o H key is valid v l run. rows c w o is v l valid H run key;
}
