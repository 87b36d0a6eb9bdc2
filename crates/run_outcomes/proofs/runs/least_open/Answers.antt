use Rattle.std.proofs.Common.{◌<◌, ◌≤◌, List, length, reverse, get_or, subst, sym, ap, ◌∙◌}
use Rattle.std.proofs.lemmas.Bool.{false≢true}
use Rattle.server_core.specs.Outcome.{outcome}
use Rattle.run_outcomes.specs.Stories.{Tells}
use Rattle.run_outcomes.specs.declared.stories.Story.{Story}
use Rattle.run_outcomes.proofs.Gathering.{story_at}
use Rattle.run_outcomes.proofs.OneByOne.{start, all_over, all_there, one_more, least_open}
use Rattle.run_outcomes.proofs.runs.least_open.Goals as goal

pub loop-story-init : goal.loop-story-init
loop-story-init c =
    let r = c.args.role in
    let H = reverse c.args.history.now in
    start r H c.in_ok-stories.stories.items c.in_ok-stories.ensures.ids (outcome r.config r.work.now H)

pub returns-then-not-branch-clause-some : goal.returns-then-not-branch-clause-some
returns-then-not-branch-clause-some c =
    let r = c.args.role in
    let H = reverse c.args.history.now in
    let i = c.loop-story.story-index in
    let t = c.story-item.result in
    let ts = c.in_ok-stories.stories.items in
    let less = subst (λ (l : List Story). i < length l) c.deref-story-items.ensures.value c.loop-story-test.true in
    let at = c.story-item.is ∙ ap (λ l. get_or l i t) c.deref-story-items.ensures.value in
    let k = story_at ts i t less at (Tells r H) c.in_ok-stories.ensures.stories in
    least_open r H ts c.in_ok-stories.ensures.ids (outcome r.config r.work.now H) i t less at c.loop-story.invariant k
    (λ over. false≢true (sym c.if-not-branch.true ∙ (c.in_ok-is_over.ensures H k).1 over))

pub returns-then-not-branch-clause-quiet : goal.returns-then-not-branch-clause-quiet
returns-then-not-branch-clause-quiet c quiet =
    let r = c.args.role in
    let H = reverse c.args.history.now in
    let i = c.loop-story.story-index in
    let t = c.story-item.result in
    let ts = c.in_ok-stories.stories.items in
    let less = subst (λ (l : List Story). i < length l) c.deref-story-items.ensures.value c.loop-story-test.true in
    let at = c.story-item.is ∙ ap (λ l. get_or l i t) c.deref-story-items.ensures.value in
    let k = story_at ts i t less at (Tells r H) c.in_ok-stories.ensures.stories in
    absurd (false≢true (sym c.if-not-branch.true ∙ (c.in_ok-is_over.ensures H k).1 (all_over r.config r.work.now H r.ranges r.valid quiet t.id k.known)))

pub loop-story-preserved : goal.loop-story-preserved
loop-story-preserved c =
    let r = c.args.role in
    let H = reverse c.args.history.now in
    let i = c.loop-story.story-index in
    let t = c.story-item.result in
    let ts = c.in_ok-stories.stories.items in
    let less = subst (λ (l : List Story). i < length l) c.deref-story-items.ensures.value c.loop-story-test.true in
    let at = c.story-item.is ∙ ap (λ l. get_or l i t) c.deref-story-items.ensures.value in
    let k = story_at ts i t less at (Tells r H) c.in_ok-stories.ensures.stories in
    one_more r H ts c.in_ok-stories.ensures.ids (outcome r.config r.work.now H) i t less at c.loop-story.invariant
    ((c.in_ok-is_over.ensures H k).0 c.if-not-branch.false)

pub returns-clause-none : goal.returns-clause-none
returns-clause-none c =
    let r = c.args.role in
    let H = reverse c.args.history.now in
    let past = subst (λ (l : List Story). length l ≤ c.loop-story.story-index) c.deref-story-items.ensures.value c.loop-story-test.false in
    all_there r H c.in_ok-stories.stories.items c.in_ok-stories.ensures.ids (outcome r.config r.work.now H) c.loop-story.story-index past c.loop-story.invariant
