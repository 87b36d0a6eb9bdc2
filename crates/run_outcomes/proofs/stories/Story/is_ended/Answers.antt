use Rattle.std.proofs.Common.{◌||◌, is_some, refl, ap, sym, ◌∙◌}
use Rattle.server_core.specs.AttemptEnds.{attempt, all_undone}
use Rattle.server_core.specs.Roles.{setting_of}
use Rattle.run_outcomes.proofs.VotedOutcomes.{over_there, over_here, still_some}
use Rattle.run_outcomes.proofs.stories.Story.is_ended.Goals as goal

pub returns-then-is_some : goal.returns-then-is_some
returns-then-is_some c H k =
    let r = c.args.role in
    let x = c.args.self.now.id in
    let s = setting_of r in
    let some = sym (ap is_some (c.done_turn.ensures r H k)) ∙ still_some (attempt x) c.done_turn.result ∙ sym c.is_some.ensures ∙ c.if-is_some.true in
    (λ _. over_there r.config r.work.now c.requires.voting H x k.known (ap (λ b. b || all_undone s H (attempt x s.attempts)) some), λ _. refl)

pub returns : goal.returns
returns c H k =
    let r = c.args.role in
    let x = c.args.self.now.id in
    let s = setting_of r in
    let none = sym (ap is_some (c.done_turn.ensures r H k)) ∙ still_some (attempt x) c.done_turn.result ∙ sym c.is_some.ensures ∙ c.if-is_some.false in
    let last = ap (λ b. b || all_undone s H (attempt x s.attempts)) none ∙ sym (c.in_ok-undone.ensures H k) in
    (λ t. over_there r.config r.work.now c.requires.voting H x k.known (last ∙ t), λ over. sym last ∙ over_here r.config r.work.now c.requires.voting H x over)
