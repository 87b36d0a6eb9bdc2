use Rattle.std.proofs.Common.{map, ◌&&◌, sym, ap, ap₂, ◌∙◌}
use Rattle.server_core.specs.AttemptEnds.{attempt, dones_for}
use Rattle.server_core.specs.Received.{started_for, all_closed}
use Rattle.run_outcomes.proofs.Telling.{done_told}
use Rattle.run_outcomes.proofs.stories.Story.is_done.Goals as goal

pub returns-then-has_started : goal.returns-then-has_started
returns-then-has_started c r H k =
    let t = c.args.self.now in
    let who = attempt t.id c.args.turn in
    let ms = map (λ m. m.now) t.messages.items in
    let begun = c.has_started.ensures ∙ ap₂ started_for c.attempt-who.ensures (ap (map (λ m. m.now)) c.deref.ensures.value) in
    let all = c.all_done.ensures ∙ ap₂ all_closed (ap₂ dones_for c.attempt-who.ensures (ap (map (λ m. m.now)) c.deref-then-has_started.ensures.value)) c.as_slice.ensures in
    all ∙ ap (λ b. b && all_closed (dones_for who ms) t.participants) (sym c.if-has_started.true ∙ begun) ∙ done_told r H t k c.args.turn

pub returns-else-has_started : goal.returns-else-has_started
returns-else-has_started c r H k =
    let t = c.args.self.now in
    let who = attempt t.id c.args.turn in
    let ms = map (λ m. m.now) t.messages.items in
    let begun = c.has_started.ensures ∙ ap₂ started_for c.attempt-who.ensures (ap (map (λ m. m.now)) c.deref.ensures.value) in
    c.if-has_started.false ∙ ap (λ b. b && all_closed (dones_for who ms) t.participants) (sym c.if-has_started.false ∙ begun) ∙ done_told r H t k c.args.turn
