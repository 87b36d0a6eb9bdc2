use Rattle.std.proofs.Common.{[], ◌∷◌, sym, subst}
use Rattle.deneva_base.specs.declared.config.Protocol.TheVariants.{WaitDie}
use Rattle.server_core.specs.declared.messages.Msg.{Msg}
use Rattle.server_core.specs.declared.messages.Msg.TheVariants.{Abort}
use Rattle.node_trials.specs.Trials.{FitInTurn}
use Rattle.node_trials.specs.Works.{trial_role, first_attempt, sent}
use Rattle.node_trials.proofs.Waiting.{first_ask, waiting_fit}
use Rattle.node_trials.proofs.tests.an_older_transaction_waits_and_is_woken.Goals as goal

pub mails_with_waits-requires : goal.mails_with_waits-requires
mails_with_waits-requires g c =
    subst (λ (first : Msg). FitInTurn (trial_role WaitDie) [] (sent 0 first ∷ sent 1 c.ask-2.result ∷ sent 0 (Abort first_attempt) ∷ [])) (sym c.ask.ensures)
    (subst (λ (second : Msg). FitInTurn (trial_role WaitDie) [] (sent 0 first_ask ∷ sent 1 second ∷ sent 0 (Abort first_attempt) ∷ [])) (sym c.ask-2.ensures) waiting_fit)
