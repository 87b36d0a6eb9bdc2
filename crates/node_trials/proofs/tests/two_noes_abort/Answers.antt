use Rattle.std.proofs.Common.{List, [], ◌∷◌, ◌++◌, sym, subst, ap₂, ◌∙◌}
use Rattle.deneva_base.specs.declared.config.Protocol.TheVariants.{NoWait}
use Rattle.server_core.specs.declared.messages.Msg.{Msg}
use Rattle.node_trials.specs.declared.steps.Step.{Step}
use Rattle.node_trials.specs.Trials.{FitInTurn}
use Rattle.node_trials.specs.Works.{trial_role, sent, asked_steps, two_noes_steps}
use Rattle.node_trials.proofs.Fitting.{asked_fit, two_noes_fit}
use Rattle.node_trials.proofs.tests.two_noes_abort.Goals as goal

pub mails_without_waits-requires : goal.mails_without_waits-requires
mails_without_waits-requires g c =
    let votes = ap₂ (λ (first second : Msg). asked_steps ++ sent 0 first ∷ sent 1 second ∷ []) c.no.ensures c.no-2.ensures in
    subst (λ (l : List Step). FitInTurn (trial_role NoWait) [] l) (sym (c.deref.ensures.value ∙ c.in_ok-steps.ensures ∙ votes)) (asked_fit two_noes_steps two_noes_fit)
