use Rattle.std.proofs.Common.{◌≡◌, List, reverse, refl, sym, ap, ◌∙◌, subst}
use Rattle.std.proofs.lemmas.List.{reverse-reverse}
use Rattle.deneva_base.specs.Partitions.{partition_of}
use Rattle.deneva_base.specs.Rows.{row_of}
use Rattle.deneva_base.specs.declared.keys.Key.{Key}
use Rattle.server_core.specs.IsSerial.{IsSerial}
use Rattle.server_core.specs.Named.{AllNamed}
use Rattle.server_core.specs.NodeRows.{rows_of_node}
use Rattle.server_core.specs.Outcome as outcomes
use Rattle.server_core.specs.Picks.{picked}
use Rattle.server_core.specs.ReportOrder.{InReportOrder}
use Rattle.server_core.specs.Runs.{heard}
use Rattle.server_core.specs.Setting.{setting}
use Rattle.server_core.specs.Told.{IsTold}
use Rattle.server_core.specs.declared.messages.Entry.{Entry}
use Rattle.server_core.specs.declared.outcomes.Outcome.{Outcome}
use Rattle.run_outcomes.specs.Outcomes.{with_rows}
use Rattle.calvin_laws.proofs.Configured.{ordered_outcome}
use Rattle.replay.proofs.Outcomes.{outcome_rows}
use Rattle.replay.proofs.runs.run_in.Goals as goal

pub returns : goal.returns
returns g c =
    let law = c.runs_are_right.ensures in
    let config = c.args.config in
    let work = c.args.work.now in
    let ranges = c.requires.config in
    let valid = c.requires.valid in
    let H : List Entry = picked config work c.args.schedule.now in
    let is = c.in_ok-world.ensures in
    let then = c.in_ok-finished.ensures in
    let rows = c.in_ok-finished.finished.rows in
    let history : c.in_ok-finished.finished.history ≡ reverse H = then.history ∙ ap reverse is.entries in
    let entries : reverse c.as_slice.result.now ≡ H = ap reverse (c.as_slice.ensures ∙ history) ∙ reverse-reverse H in
    let quiet = law.picked config work c.args.schedule.now ranges valid in
    let same_rows : rows ≡ (outcomes.outcome config work H).rows = outcome_rows config work H rows then.order (λ key.
    then.rows key
    ∙ (λ i. rows_of_node (is.config i) (is.work i) (partition_of key (is.config i).parts) (heard (partition_of key (is.config i).parts) (is.entries i)) key)
    ∙ law.rows config work H key ranges valid quiet) in
    let same : c.in_ok-outcome.outcome ≡ outcomes.outcome config work H = c.in_ok-outcome.ensures ∙ (λ i. with_rows (outcomes.outcome config work (entries i)) (same_rows i)) in
    record {
      history = history;
      quiet = quiet;
      outcome = same;
      serial = subst (λ (o : Outcome). IsSerial work o) (sym same) (law.serial config work H ranges valid quiet);
      in_order = subst InReportOrder (sym same) (law.in_order config work H ranges valid quiet);
      told = subst (IsTold (setting config work) H) (sym same) (law.told config work H ranges valid quiet);
      atomic = law.atomic config work H ranges valid quiet;
      named = subst (AllNamed config work H) (sym same) (law.named config work H _ ranges valid quiet);
      ordered = λ is_calvin. same ∙ ordered_outcome config work is_calvin ranges valid H quiet;
    }
