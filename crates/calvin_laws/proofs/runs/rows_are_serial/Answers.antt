-- By what each mail of a run is.
use Rattle.std.proofs.Common.{ap, ◌∙◌, sym, subst, inl, inr}
use Rattle.server_core.specs.declared.messages.Msg.TheVariants.{Rows}
use Rattle.calvin_laws.proofs.counts.RightMails.{RightMsg, rights, known}
use Rattle.server_core.specs.CalvinSerial.{serial_part}
use Rattle.calvin_laws.proofs.runs.rows_are_serial.Goals as goal

pub returns : goal.returns
returns c = record {
  flight = λ s H flight m x q rows v run i e. let r : RightMsg s H m.from m.to (Rows x q rows) = subst (λ z. RightMsg s H m.from m.to z) e (rights s v H flight run m (inl i)) in r.4 ∙ ap (λ n. serial_part s n x) (sym r.0);
  handled = λ s H flight p x q rows v run i. ((known s H p (λ y j. rights s v H flight run y (inr j))).right x q rows i).1;
}
