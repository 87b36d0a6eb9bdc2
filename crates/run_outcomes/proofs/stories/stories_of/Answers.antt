use Rattle.std.proofs.Common.{ℕ, map, reverse, length, get_or, ◌<◌, ◌∷◌, [], ◌++◌, sym, ap, ap₂, subst, ◌∙◌, arith}
use Rattle.std.proofs.lemmas.List.{map-append, take_all}
use Rattle.std.proofs.lemmas.List.Elements.{All-push}
use Rattle.txn_program.specs.Serial.{all_ids}
use Rattle.txn_program.proofs.Ids.{few_ids, id_for_each}
use Rattle.run_outcomes.specs.Stories.{Tells}
use Rattle.run_outcomes.specs.declared.stories.Story.{Story}
use Rattle.run_outcomes.proofs.Grouped.{group_count, group_at}
use Rattle.run_outcomes.proofs.Places.{id_there, ids_more}
use Rattle.run_outcomes.proofs.stories.stories_of.Goals as goal

pub overflow_cast-place : goal.overflow_cast-place
overflow_cast-place c =
    let w = c.args.role.work.now in
    let few = few_ids w c.args.role.valid in
    let count = group_count (λ g. map (λ e. e.now) g.items) c.in_ok-groups.groups.items c.len.result c.args.history.now c.in_ok-groups.ensures in
    let h = c.loop-place-test.true in
    let same = ap length c.deref-entries-items.ensures.value in
    omega (arith, few, count, h, same, id_for_each w, c.len.ensures.len)

pub overflow_add-place : goal.overflow_add-place
overflow_add-place c =
    let w = c.args.role.work.now in
    let few = few_ids w c.args.role.valid in
    let count = group_count (λ g. map (λ e. e.now) g.items) c.in_ok-groups.groups.items c.len.result c.args.history.now c.in_ok-groups.ensures in
    let h = c.loop-place-test.true in
    let same = ap length c.deref-entries-items.ensures.value in
    omega (arith, few, count, h, same, id_for_each w, c.len.ensures.len)

pub story_of-requires : goal.story_of-requires
story_of-requires c =
    let count = group_count (λ g. map (λ e. e.now) g.items) c.in_ok-groups.groups.items c.len.result c.args.history.now c.in_ok-groups.ensures in
    let h = c.loop-place-test.true in
    let same = ap length c.deref-entries-items.ensures.value in
    id_there c.args.role.work.now c.loop-place.place (omega (arith, count, h, same, c.len.ensures.len))

pub loop-place-preserved : goal.loop-place-preserved
loop-place-preserved c =
    let w = c.args.role.work.now in
    let H = c.args.history.now in
    let k = c.loop-place.place in
    let gs = c.in_ok-groups.groups.items in
    let count = group_count (λ g. map (λ e. e.now) g.items) gs c.len.result H c.in_ok-groups.ensures in
    let h = c.loop-place-test.true in
    let same = ap length c.deref-entries-items.ensures.value in
    let less : k < length w.programs = omega (arith, count, h, same, c.len.ensures.len) in
    let pushed = c.in_ok-push.ensures.items in
    let entries = group_at (λ g. map (λ e. e.now) g.items) gs c.len.result H c.in_ok-groups.ensures c.entries-item.result k (omega (arith, h, same)) (c.entries-item.is ∙ ap (λ l. get_or l k c.entries-item.result) c.deref-entries-items.ensures.value) in
    record {
      ids = ap (map (λ t. t.id)) pushed ∙ map-append (λ t. t.id) c.loop-place.stories.items _ ∙ ap₂ (λ a b. a ++ b ∷ []) c.loop-place.invariant.ids c.in_ok-story.ensures.id ∙ sym (ids_more w k less);
      stories = subst (λ l. (i : ℕ) (d : Story) → i < length l → Tells c.args.role (reverse H) (get_or l i d)) (sym pushed) (All-push (λ t. Tells c.args.role (reverse H) t) c.loop-place.stories.items c.in_ok-story.story c.loop-place.invariant.stories (c.in_ok-story.ensures.tells H (ap (map (λ e. e.now)) c.deref.ensures.value ∙ entries)));
    }

pub returns-clause-ids : goal.returns-clause-ids
returns-clause-ids c =
    let w = c.args.role.work.now in
    let count = group_count (λ g. map (λ e. e.now) g.items) c.in_ok-groups.groups.items c.len.result c.args.history.now c.in_ok-groups.ensures in
    let h = c.loop-place-test.false in
    let same = ap length c.deref-entries-items.ensures.value in
    c.loop-place.invariant.ids ∙ take_all c.loop-place.place (all_ids w) (omega (arith, count, h, same, id_for_each w, c.len.ensures.len))
