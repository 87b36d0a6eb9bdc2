use Rattle.std.proofs.Common.{Bor, option_map, ap, ◌∙◌}
use Rattle.std.specs.List.{find}
use Rattle.deneva_base.specs.declared.numbers.Attempt.{Attempt}
use Rattle.server_core.specs.Aborts.{is_ask_of, line_at}
use Rattle.server_core.specs.AttemptEnds.{attempt}
use Rattle.server_core.specs.declared.messages.Entry.{Entry}
use Rattle.run_outcomes.proofs.Aborting.{found_in, refusal_told}
use Rattle.run_outcomes.proofs.stories.Story.refusal_line.Goals as goal

pub returns : goal.returns
returns c r H k =
    let t = c.args.self.now in
    let f = c.args.refusal in
    let o = c.newest_ask-found.result in
    let who = attempt t.id c.args.turn in
    let asked = c.newest_ask-found.ensures ∙ ap (λ (x : Attempt). find (λ (e : Bor Entry). is_ask_of x f.key e.now.msg) c.deref.result.now) c.attempt-who.ensures in
    c.line_at.ensures
    ∙ ap (λ (x : Attempt). line_at x f.cause (option_map (λ (e : Bor Entry). e.now) o)) c.attempt-who.ensures
    ∙ refusal_told r H t k c.args.turn (option_map (λ (e : Bor Entry). e.now) o) (record { key = f.key; cause = f.cause })
    (found_in (λ e. is_ask_of who f.key e.msg) c.deref.result.now t.entries.items o asked c.deref.ensures.value)
