-- The laws are lemmas.
use Rattle.protocol_rules.specs.Maat.{maat}
use Rattle.protocol_rules.proofs.Rangeds.{windows_law, waits_law}
use Rattle.protocol_rules.proofs.Maats.{ranging}
use Rattle.protocol_rules.proofs.Limits.{window_some}
use Rattle.protocol_rules.proofs.laws.maat_laws.Goals as goal

pub returns : goal.returns
returns c = record {
  windows = λ span loaded h o. windows_law loaded (maat span loaded) (ranging span loaded) h o;
  window = λ span loaded h who bound writes appends lo hi few e. window_some span loaded h who bound writes appends lo hi few e;
  waits = λ span loaded h o. waits_law loaded (maat span loaded) (ranging span loaded) h o;
}
