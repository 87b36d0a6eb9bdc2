use Rattle.std.proofs.Common.{sym, ap, ◌∙◌, subst}
use Rattle.txn_program.specs.Serial.{serial}
use Rattle.server_core.specs.ReportOrder.{InReportOrder}
use Rattle.run_outcomes.specs.SerialOutcome.{serial_outcome}
use Rattle.deneva_top.proofs.Ids.{ids_known}
use Rattle.deneva_top.proofs.calls.serial_report.Goals as goal

pub run_serial-requires : goal.run_serial-requires
run_serial-requires c = rw c.in_ok-order.ensures (ids_known c.args.work.now)

pub write_report-requires : goal.write_report-requires
write_report-requires c =
    subst InReportOrder
    (sym (c.in_ok-outcome.ensures ∙ ap serial_outcome (c.in_ok-run.ensures ∙ ap (serial c.args.work.now) c.in_ok-order.ensures)))
    (c.serial_outcomes_are_serial.ensures.in_order c.args.work.now)
