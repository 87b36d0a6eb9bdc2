-- The laws are lemmas.
use Rattle.std.proofs.Common.{None, cond, refl, ap, map, ◌∙◌}
use Rattle.deneva_base.specs.Partitions.{partition_of}
use Rattle.server_core.specs.GlobalOrder.{order}
use Rattle.server_core.specs.CalvinScheduler.{now}
use Rattle.server_core.specs.Runs.{heard}
use Rattle.server_core.specs.declared.outcomes.Decided.{Decided}
use Rattle.calvin_laws.proofs.serial.FinishedOnce.{finished_once}
use Rattle.server_core.proofs.lists.ListTests.{same_number}
use Rattle.calvin_laws.proofs.serial.Outcomes.{numbers_are}
use Rattle.calvin_laws.proofs.serial.Settled.{lines_serial, node_rows}
use Rattle.calvin_laws.proofs.runs.calvin_quiet_runs_are_serial.Goals as goal

pub returns : goal.returns
returns c = record {
  law = λ s H v run. lines_serial s v H run;
  numbers = λ s H v run. ap (map (λ (l : Decided). l.number)) (lines_serial s v H run) ∙ numbers_are s s.loaded (order s);
  rows = λ s H key v run.
      let p = partition_of key s.parts in
      ap (λ b. cond b (now s p (heard p H) key) None) (same_number p) ∙ node_rows s v H run p key refl;
  finished = λ s H x v run i. finished_once s v H run x i;
}
