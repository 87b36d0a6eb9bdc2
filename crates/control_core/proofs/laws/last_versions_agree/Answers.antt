-- The laws are lemmas.
use Rattle.control_core.proofs.Lasts.{last_rows, last_latest}
use Rattle.control_core.proofs.laws.last_versions_agree.Goals as goal

pub returns : goal.returns
returns c = record { left = last_rows; latest = last_latest }
