use Rattle.std.proofs.Common.{map, ap, ap₂, sym, ◌∙◌}
use Rattle.std.proofs.lemmas.Result.{IfOk-weaker}
use Rattle.server_core.specs.Received.{refused_for}
use Rattle.run_outcomes.proofs.Telling.{told_if_refused, told_if_voted}
use Rattle.run_outcomes.proofs.stories.Story.told_partitions.Goals as goal

pub returns-then-is_refused : goal.returns-then-is_refused
returns-then-is_refused c =
    let refused = sym (c.is_refused.ensures ∙ ap₂ refused_for c.attempt.ensures (ap (map (λ m. m.now)) c.deref.ensures.value)) ∙ c.if-is_refused.true in
    IfOk-weaker c.asked_partitions.result _ _ (λ list is H k. is H k ∙ told_if_refused c.args.role H c.args.self.now k c.args.turn refused) c.asked_partitions.ensures

pub returns-else-is_refused : goal.returns-else-is_refused
returns-else-is_refused c =
    let refused = sym (c.is_refused.ensures ∙ ap₂ refused_for c.attempt.ensures (ap (map (λ m. m.now)) c.deref.ensures.value)) ∙ c.if-is_refused.false in
    IfOk-weaker c.copy.result _ _ (λ list is H k. is ∙ told_if_voted c.args.role H c.args.self.now k c.args.turn refused) c.copy.ensures
