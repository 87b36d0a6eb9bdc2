-- The laws are lemmas.
use Rattle.server_core.proofs.serial.InOrder.{voting_order, calvin_order}
use Rattle.server_core.proofs.outcome_laws.outcomes_are_in_order.Goals as goal

pub returns : goal.returns
returns c = record { voting = voting_order; calvin = calvin_order }
