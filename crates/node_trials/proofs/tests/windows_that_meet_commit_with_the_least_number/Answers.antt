use Rattle.std.proofs.Common.{List, [], sym, subst, ◌∙◌}
use Rattle.deneva_base.specs.declared.config.Protocol.TheVariants.{NoWait}
use Rattle.node_trials.specs.declared.steps.Step.{Step}
use Rattle.node_trials.specs.Trials.{FitInTurn}
use Rattle.node_trials.specs.Works.{trial_role, meeting_steps}
use Rattle.node_trials.proofs.Fitting.{asked_fit, meeting_fit}
use Rattle.node_trials.proofs.tests.windows_that_meet_commit_with_the_least_number.Goals as goal

pub mails_without_waits-requires : goal.mails_without_waits-requires
mails_without_waits-requires g c =
    subst (λ (l : List Step). FitInTurn (trial_role NoWait) [] l) (sym (c.deref.ensures.value ∙ c.in_ok-steps.ensures)) (asked_fit meeting_steps meeting_fit)
