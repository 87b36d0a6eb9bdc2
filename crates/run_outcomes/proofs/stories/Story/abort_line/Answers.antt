use Rattle.std.proofs.Common.{map, ap, ap₂, sym, ◌∙◌}
use Rattle.std.proofs.lemmas.Result.{IfOk-weaker}
use Rattle.server_core.specs.Aborts.{abort_lines, refusal_for}
use Rattle.server_core.specs.AttemptEnds.{attempt}
use Rattle.run_outcomes.specs.Seen.{refusal_of}
use Rattle.server_core.specs.Roles.{setting_of}
use Rattle.run_outcomes.proofs.Aborting.{refusals_told}
use Rattle.run_outcomes.proofs.stories.Story.abort_line.Goals as goal

pub returns-in-Some : goal.returns-in-Some
returns-in-Some c H k =
    let t = c.args.self.now in
    let who = attempt t.id c.args.turn in
    let is = sym (ap refusal_of c.in-Some.is) ∙ c.refusal_for.ensures ∙ ap₂ refusal_for c.attempt.ensures (ap (map (λ m. m.now)) c.deref.ensures.value) ∙ refusals_told c.args.role H t k c.args.turn in
    c.refusal_line.ensures c.args.role H k ∙ ap (abort_lines (setting_of c.args.role) H who) is

pub returns-in-None : goal.returns-in-None
returns-in-None c =
    IfOk-weaker c.voted_line.result _ _
    (λ line is H k.
    let t = c.args.self.now in
    let who = attempt t.id c.args.turn in
    let none = sym (ap refusal_of c.in-None.is) ∙ c.refusal_for.ensures ∙ ap₂ refusal_for c.attempt.ensures (ap (map (λ m. m.now)) c.deref.ensures.value) ∙ refusals_told c.args.role H t k c.args.turn in
    is H k ∙ ap (abort_lines (setting_of c.args.role) H who) none)
    c.voted_line.ensures
