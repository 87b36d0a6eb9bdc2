use Rattle.std.proofs.Common.{◌≡◌, Bor, map, refl, option_map, eqb, ltb, true, ◌&&◌, ap, ap₂, sym, ◌∙◌, arith}
use Rattle.std.specs.List.{find}
use Rattle.std.proofs.lemmas.Bool.Decides.{nat_tests}
use Rattle.deneva_base.specs.declared.causes.Cause.{Cause}
use Rattle.deneva_base.specs.declared.numbers.Attempt.{Attempt}
use Rattle.server_core.specs.Aborts.{is_prepare_of, is_vote_of, line_at}
use Rattle.server_core.specs.Coordinator.{least_hi, greatest_lo}
use Rattle.server_core.specs.AttemptEnds.{attempt}
use Rattle.server_core.specs.declared.messages.Entry.{Entry}
use Rattle.run_outcomes.specs.Seen.{no_of}
use Rattle.run_outcomes.proofs.Aborting.{found_in, no_told, apart_told}
use Rattle.run_outcomes.proofs.stories.Story.vote_line.Goals as goal

pub returns-in-Some : goal.returns-in-Some
returns-in-Some c r H k =
    let t = c.args.self.now in
    let x = c.in-Some.no in
    let o = c.newest_prepare.result in
    let who = attempt t.id c.args.turn in
    let bs = c.args.ballots.now in
    let prepared = c.newest_prepare.ensures ∙ ap (λ (w : Attempt). find (λ (e : Bor Entry). eqb e.now.node x.part && is_prepare_of w e.now.msg) c.deref.result.now) c.attempt-who.ensures in
    c.line_at.ensures
    ∙ ap (λ (w : Attempt). line_at w x.cause (option_map (λ (e : Bor Entry). e.now) o)) c.attempt-who.ensures
    ∙ no_told r H t k c.args.turn (option_map (λ (e : Bor Entry). e.now) o) bs (x.part, x.cause) (sym c.first_no.ensures ∙ ap no_of c.in-Some.is)
    (found_in (λ e. eqb e.node x.part && is_prepare_of who e.msg) c.deref.result.now t.entries.items o prepared c.deref.ensures.value)

pub returns-in-None : goal.returns-in-None
returns-in-None c r H k =
    let t = c.args.self.now in
    let o = c.newest_vote.result in
    let who = attempt t.id c.args.turn in
    let bs = c.args.ballots.now in
    let voted = c.newest_vote.ensures ∙ ap (λ (w : Attempt). find (λ (e : Bor Entry). eqb e.now.node t.home && is_vote_of w e.now.msg) c.deref-in-None.result.now) c.attempt-who.ensures in
    let lo = c.greatest_lo.ensures in
    let hi = c.least_hi.ensures in
    let less = c.if-least_hi-greatest_lo.true in
    let over : ltb (least_hi bs) (greatest_lo bs) ≡ true = grind (arith, nat_tests, lo, hi, less) in
    c.line_at-in-None.ensures
    ∙ ap₂ (λ (w : Attempt) (x : Cause). line_at w x (option_map (λ (e : Bor Entry). e.now) o)) c.attempt-who.ensures c.apart_cause.ensures
    ∙ apart_told r H t k c.args.turn (option_map (λ (e : Bor Entry). e.now) o) bs t.home (sym c.first_no.ensures ∙ ap no_of c.in-None.is) over refl
    (found_in (λ e. eqb e.node t.home && is_vote_of who e.msg) c.deref-in-None.result.now t.entries.items o voted c.deref-in-None.ensures.value)
