-- The laws are lemmas.
use Rattle.protocol_rules.proofs.NoWaits.{no_wait_windows, no_wait_waits}
use Rattle.protocol_rules.proofs.laws.no_wait_laws.Goals as goal

pub returns : goal.returns
returns c = record { windows = no_wait_windows; waits = no_wait_waits }
