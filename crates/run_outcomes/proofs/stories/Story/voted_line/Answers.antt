use Rattle.std.proofs.Common.{map, true, false, None, refl, ap, ap₂, sym, ◌∙◌}
use Rattle.server_core.specs.Aborts.{vote_abort}
use Rattle.server_core.specs.Coordinator.{first_no}
use Rattle.server_core.specs.AttemptEnds.{attempt}
use Rattle.server_core.specs.Received.{started_for, all_voted, votes_for}
use Rattle.server_core.specs.Roles.{setting_of}
use Rattle.run_outcomes.proofs.Aborting.{voted_told}
use Rattle.run_outcomes.proofs.stories.Story.voted_line.Goals as goal

pub returns-then-not-has_started : goal.returns-then-not-has_started
returns-then-not-has_started c H k =
    let t = c.args.self.now in
    let begun = c.has_started.ensures ∙ ap₂ started_for c.attempt-who.ensures (ap (map (λ m. m.now)) c.deref.ensures.value) in
    let bs = votes_for (attempt t.id c.args.turn) (map (λ m. m.now) t.messages.items) in
    voted_told c.args.role H t k c.args.turn bs false (all_voted bs t.participants) (sym c.if-not-has_started.true ∙ begun) refl refl

pub returns-then-all_voted : goal.returns-then-all_voted
returns-then-all_voted c H k =
    let t = c.args.self.now in
    let bs = c.in_ok-ballots.ballots.items in
    let begun = c.has_started.ensures ∙ ap₂ started_for c.attempt-who.ensures (ap (map (λ m. m.now)) c.deref.ensures.value) in
    let votes = c.in_ok-ballots.ensures ∙ ap₂ votes_for c.attempt-who.ensures (ap (map (λ m. m.now)) c.deref-2.ensures.value) in
    let all = c.all_voted.ensures ∙ ap₂ all_voted c.deref-3.ensures.value c.as_slice.ensures in
    let same = c.deref-then-all_voted.ensures.value in
    c.vote_line.ensures c.args.role H k
    ∙ ap (λ l. vote_abort (setting_of c.args.role) H (attempt t.id c.args.turn) l (first_no None l)) same
    ∙ voted_told c.args.role H t k c.args.turn bs true true (sym c.if-not-has_started.false ∙ begun) votes (sym c.if-all_voted.true ∙ all)

pub returns : goal.returns
returns c H k =
    let t = c.args.self.now in
    let bs = c.in_ok-ballots.ballots.items in
    let begun = c.has_started.ensures ∙ ap₂ started_for c.attempt-who.ensures (ap (map (λ m. m.now)) c.deref.ensures.value) in
    let votes = c.in_ok-ballots.ensures ∙ ap₂ votes_for c.attempt-who.ensures (ap (map (λ m. m.now)) c.deref-2.ensures.value) in
    let all = c.all_voted.ensures ∙ ap₂ all_voted c.deref-3.ensures.value c.as_slice.ensures in
    voted_told c.args.role H t k c.args.turn bs true false (sym c.if-not-has_started.false ∙ begun) votes (sym c.if-all_voted.false ∙ all)
