use Rattle.std.proofs.Common.{map, ◌&&◌, refl, ap, ap₂, sym, ◌∙◌}
use Rattle.server_core.specs.Coordinator.{told}
use Rattle.server_core.specs.AttemptEnds.{attempt, at_home, undones_for}
use Rattle.server_core.specs.Received.{started_for, all_closed}
use Rattle.server_core.specs.Roles.{setting_of}
use Rattle.run_outcomes.proofs.Telling.{undone_told}
use Rattle.run_outcomes.proofs.stories.Story.is_undone.Goals as goal

pub returns-then-not-has_started : goal.returns-then-not-has_started
returns-then-not-has_started c H k =
    let t = c.args.self.now in
    let who = attempt t.id c.args.turn in
    let ms = map (λ m. m.now) t.messages.items in
    let s = setting_of c.args.role in
    let qs = told s (at_home s H who) who in
    let begun = c.has_started.ensures ∙ ap₂ started_for c.attempt-who.ensures (ap (map (λ m. m.now)) c.deref.ensures.value) in
    ap (λ b. b && all_closed (undones_for who ms) qs) (sym c.if-not-has_started.true ∙ begun) ∙ undone_told c.args.role H t k c.args.turn qs refl

pub returns : goal.returns
returns c H k =
    let t = c.args.self.now in
    let who = attempt t.id c.args.turn in
    let ms = map (λ m. m.now) t.messages.items in
    let s = setting_of c.args.role in
    let begun = c.has_started.ensures ∙ ap₂ started_for c.attempt-who.ensures (ap (map (λ m. m.now)) c.deref.ensures.value) in
    let qs = c.in_ok-told.told in
    let all = c.all_undone.ensures ∙ ap₂ all_closed (ap₂ undones_for c.attempt-who.ensures (ap (map (λ m. m.now)) c.deref-2.ensures.value)) c.as_slice.ensures in
    all ∙ ap (λ b. b && all_closed (undones_for who ms) qs) (sym c.if-not-has_started.false ∙ begun) ∙ undone_told c.args.role H t k c.args.turn qs (c.in_ok-told.ensures H k)
