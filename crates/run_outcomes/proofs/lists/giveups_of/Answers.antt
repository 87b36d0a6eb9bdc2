use Rattle.std.proofs.Common.{◌++◌, option_to_list, ap, sym, ◌∙◌, append-nil}
use Rattle.run_outcomes.specs.ByTransaction.{giveups_for}
use Rattle.server_core.specs.Roles.{setting_of}
use Rattle.run_outcomes.specs.Stories.{Tells}
use Rattle.run_outcomes.proofs.Gathering.{story_at, story_more}
use Rattle.run_outcomes.proofs.lists.giveups_of.Goals as goal
use Rattle.run_outcomes.proofs.lists.giveups_of.Goals.{in-Some+in_ok-push, in_default}

pub loop-story-preserved : goal.loop-story-preserved
loop-story-preserved c H all =
    let ts = c.args.stories.now in
    let i = c.loop-story.story-index in
    let t = c.story-item.result in
    let list = c.loop-story.list in
    let k = story_at ts i t c.loop-story-test.true c.story-item.is (Tells c.args.role H) all in
    story_more ts i t c.loop-story-test.true c.story-item.is (giveups_for (setting_of c.args.role) H) list c.match-branch-2.list (c.loop-story.invariant H all)
    (elim c.match-branch-2.branch [
      | in-Some+in_ok-push w ↦ w.list-is ∙ w.in_ok-push.ensures.ok ∙ ap (λ o. list ++ option_to_list o) (sym w.in-Some.is)
      | in_default w ↦ w.list-is ∙ sym (append-nil list) ∙ ap (λ o. list ++ option_to_list o) (sym w.in_default.is)
    ] ∙ ap (λ l. list ++ l) (c.in_ok-giveup.ensures H k))
