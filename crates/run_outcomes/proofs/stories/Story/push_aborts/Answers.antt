use Rattle.std.proofs.Common.{◌++◌, option_to_list, ap, sym, ◌∙◌, append-nil}
use Rattle.server_core.specs.Roles.{setting_of}
use Rattle.run_outcomes.proofs.Aborting.{turn_more}
use Rattle.run_outcomes.proofs.stories.Story.push_aborts.Goals as goal
use Rattle.run_outcomes.proofs.stories.Story.push_aborts.Goals.{in-Some+in_ok-push, in_default}

pub loop-turn-preserved : goal.loop-turn-preserved
loop-turn-preserved c H k =
    let lines = c.loop-turn.lines in
    turn_more (setting_of c.args.role) H c.args.self.now.id c.loop-turn.turn c.args.lines.now lines (option_to_list c.in_ok-line.field-0) c.match-branch-2.lines (c.loop-turn.invariant H k)
    (elim c.match-branch-2.branch [
      | in-Some+in_ok-push w ↦ w.lines-is ∙ w.in_ok-push.ensures.ok ∙ ap (λ o. lines ++ option_to_list o) (sym w.in-Some.is)
      | in_default w ↦ w.lines-is ∙ sym (append-nil lines) ∙ ap (λ o. lines ++ option_to_list o) (sym w.in_default.is)
    ])
    (c.in_ok-line.ensures H k)
