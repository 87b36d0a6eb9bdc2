use Rattle.std.proofs.Common.{map, ap, ◌∙◌}
use Rattle.std.specs.List.{flat_map}
use Rattle.std.proofs.lemmas.List.{take_all}
use Rattle.server_core.specs.Aborts.{turns}
use Rattle.server_core.specs.Roles.{setting_of}
use Rattle.run_outcomes.specs.Stories.{Tells}
use Rattle.run_outcomes.proofs.Gathering.{story_at, story_more}
use Rattle.run_outcomes.proofs.lists.aborts_of.Goals as goal

pub loop-story-preserved : goal.loop-story-preserved
loop-story-preserved c H all =
    let ts = c.args.stories.now in
    let i = c.loop-story.story-index in
    let t = c.story-item.result in
    let list = c.loop-story.list in
    let k = story_at ts i t c.loop-story-test.true c.story-item.is (Tells c.args.role H) all in
    story_more ts i t c.loop-story-test.true c.story-item.is (λ x. turns (setting_of c.args.role) H x c.args.role.config.attempts) list c.push_aborts.new.lines (c.loop-story.invariant H all)
    (c.in_ok-push_aborts.ensures H k)

pub returns : goal.returns
returns c H all =
    c.loop-story.invariant H all ∙ ap (λ l. flat_map (λ x. turns (setting_of c.args.role) H x c.args.role.config.attempts) (map (λ t. t.id) l)) (take_all c.loop-story.story-index c.args.stories.now c.loop-story-test.false)
