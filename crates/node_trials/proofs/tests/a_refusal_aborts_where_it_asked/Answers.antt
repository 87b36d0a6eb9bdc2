use Rattle.std.proofs.Common.{List, [], sym, subst, ◌∙◌}
use Rattle.deneva_base.specs.declared.config.Protocol.TheVariants.{NoWait}
use Rattle.node_trials.specs.declared.steps.Step.{Step}
use Rattle.node_trials.specs.Trials.{FitInTurn}
use Rattle.node_trials.specs.Works.{trial_role}
use Rattle.node_trials.proofs.Fitting.{refused_fit}
use Rattle.node_trials.proofs.tests.a_refusal_aborts_where_it_asked.Goals as goal

pub mails_without_waits-requires : goal.mails_without_waits-requires
mails_without_waits-requires g c =
    subst (λ (l : List Step). FitInTurn (trial_role NoWait) [] l) (sym (c.deref.ensures.value ∙ c.in_ok-steps.ensures)) refused_fit
