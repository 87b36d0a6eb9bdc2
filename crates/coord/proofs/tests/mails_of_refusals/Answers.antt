use Rattle.std.proofs.Common.{[], ap, sym, subst, ◌∙◌}
use Rattle.deneva_base.specs.declared.config.Protocol.TheVariants.{Timestamp}
use Rattle.coord.specs.Trials.{FitInTurn}
use Rattle.coord.proofs.Trying.{refusals, refusals_fit}
use Rattle.coord.proofs.tests.mails_of_refusals.Goals as goal

pub handle_all-requires : goal.handle_all-requires
handle_all-requires c =
    let role = c.in_ok-coord.ensures.role ∙ ap (λ w. record { config = record { protocol = Timestamp; parts = 3; attempts = 2; limit = c.args.limit }; work = w; part = 1 }) c.in_ok-work.ensures in
    ([], (c.in_ok-coord.ensures.stands, subst (λ r. FitInTurn r [] (refusals c.attempt-first.result c.attempt-second.result)) (sym role) (refusals_fit c.args.limit c.attempt-first.result c.attempt-second.result c.attempt-first.ensures c.attempt-second.ensures)))
