-- The laws are lemmas.
use Rattle.run_outcomes.proofs.InFileOrder.{in_file_order, in_report_order}
use Rattle.run_outcomes.proofs.serial_laws.serial_outcomes_are_serial.Goals as goal

pub returns : goal.returns
returns c = record { serial = in_file_order; in_order = in_report_order }
