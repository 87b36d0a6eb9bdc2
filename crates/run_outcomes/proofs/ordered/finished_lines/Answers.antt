use Rattle.std.proofs.Common.{[], ◌∷◌, ◌++◌, ◌+◌, ◌<◌, cond, sym, ap, ◌∙◌, arith}
use Rattle.std.proofs.lemmas.List.{append-nil, length-set}
use Rattle.server_core.specs.declared.outcomes.Decided.{Decided}
use Rattle.run_outcomes.specs.Finishing.{finished_line}
use Rattle.server_core.specs.Roles.{setting_of}
use Rattle.run_outcomes.specs.Stories.{Tells}
use Rattle.run_outcomes.proofs.Finished.{place_is, place_few, counts_more, place_there, lines_more, finished_told}
use Rattle.run_outcomes.proofs.Gathering.{story_at}
use Rattle.run_outcomes.proofs.ordered.finished_lines.Goals as goal
use Rattle.run_outcomes.proofs.ordered.finished_lines.Goals.{then-is_finished+in_ok-finished_line+in_ok-push, else-is_finished}

pub overflow_add-place : goal.overflow_add-place
overflow_add-place c =
    let t = c.story-item.result in
    let i = c.loop-story.story-index in
    let ts = c.args.stories.now in
    let inv = c.loop-story.invariant in
    let below = story_at ts i t c.loop-story-test.true c.story-item.is (λ t. t.home < c.args.role.config.parts) c.requires.homes in
    let few = place_few ts i t c.loop-story-test.true c.story-item.is c.loop-story.places.items c.args.role.config.parts c.from-home.result c.index-place.result.now inv.size inv.counts c.from-home.ensures below c.index-place.ensures c.requires.few in
    omega (arith, few)

pub finished_line-requires : goal.finished_line-requires
finished_line-requires c =
    let t = c.story-item.result in
    let i = c.loop-story.story-index in
    let ts = c.args.stories.now in
    let inv = c.loop-story.invariant in
    let below = story_at ts i t c.loop-story-test.true c.story-item.is (λ t. t.home < c.args.role.config.parts) c.requires.homes in
    place_few ts i t c.loop-story-test.true c.story-item.is c.loop-story.places.items c.args.role.config.parts c.from-home.result c.index-place.result.now inv.size inv.counts c.from-home.ensures below c.index-place.ensures c.requires.few

pub loop-story-preserved : goal.loop-story-preserved
loop-story-preserved c =
    let t = c.story-item.result in
    let i = c.loop-story.story-index in
    let ts = c.args.stories.now in
    let inv = c.loop-story.invariant in
    let home = c.from-home.result in
    let place = c.index-place.result.now in
    let less = c.loop-story-test.true in
    let at = c.story-item.is in
    let below = story_at ts i t less at (λ t. t.home < c.args.role.config.parts) c.requires.homes in
    record {
      size = length-set c.loop-story.places.items home (place + 1) ∙ inv.size;
      counts = counts_more ts i t less at c.loop-story.places.items c.args.role.config.parts home place inv.size inv.counts c.from-home.ensures below c.index-place.ensures;
      lines = λ H all ids.
          let r = c.args.role in
          let k = story_at ts i t less at (Tells r H) all in
          let told = c.is_finished.ensures ∙ finished_told r H t k in
          lines_more ts i t less at r H all ids c.loop-story.list c.if-is_finished.list (inv.lines H all ids)
          (elim c.if-is_finished.branch [
            | then-is_finished+in_ok-finished_line+in_ok-push w ↦
                w.list-is ∙ w.in_ok-push.ensures.ok
                ∙ ap (λ (x : Decided). c.loop-story.list ++ x ∷ [])
                (w.in_ok-finished_line.ensures H k
                (place_there ts i t less at r H all ids ∙ sym (place_is ts i t less at c.loop-story.places.items c.args.role.config.parts home place inv.size inv.counts c.from-home.ensures below c.index-place.ensures)))
                ∙ ap (λ b. c.loop-story.list ++ cond b (finished_line (setting_of r) H t.id ∷ []) []) (sym w.if-is_finished.true ∙ told)
            | else-is_finished w ↦ w.list-is ∙ sym (append-nil c.loop-story.list) ∙ ap (λ b. c.loop-story.list ++ cond b (finished_line (setting_of r) H t.id ∷ []) []) (sym w.if-is_finished.false ∙ told)
          ]);
    }
