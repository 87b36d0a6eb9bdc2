-- The laws are lemmas.
use Rattle.calvin_laws.proofs.Configured.{order_lines, order_rows}
use Rattle.calvin_laws.proofs.runs.global_order_is_serial.Goals as goal

pub returns : goal.returns
returns g = record { lines = λ c w k d is. order_lines c w is k d; rows = λ c w key k d is. order_rows c w is k d key }
