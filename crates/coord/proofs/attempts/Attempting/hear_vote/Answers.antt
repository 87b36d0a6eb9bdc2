use Rattle.std.proofs.Common.{rules, ◌≡◌, ◌++◌, ◌∙◌, ap, ap₂, arith}
use Rattle.std.proofs.lemmas.Grind.{common_steps}
use Rattle.server_core.specs.Roles.{setting_of}
use Rattle.coord.specs.Attempts.{state_of}
use Rattle.coord.specs.States.{State, decision_mails, participants_of}
use Rattle.coord.proofs.Votes.{voted_on, voted_last, quiet_on, told_last, with_ballots}
use Rattle.coord.proofs.attempts.Attempting.hear_vote.Goals as goal

pub returns-then-not-is_last-clause-ok : goal.returns-then-not-is_last-clause-ok
returns-then-not-is_last-clause-ok c =
    let t = state_of c.args.self.now in
    let more = c.in_ok-push.ensures.items in
    ap₂ (λ bs l. with_ballots bs l t) more c.take_out.ensures
    ∙ voted_on (setting_of c.args.role.now) c.args.ballot t (search rules)

pub returns-then-not-is_last-clause-said : goal.returns-then-not-is_last-clause-said
returns-then-not-is_last-clause-said c = quiet_on (setting_of c.args.role.now) c.args.ballot (state_of c.args.self.now) c.args.role.now.part c.args.who c.args.out.now.mails (search rules)

pub returns-in-Ok-clause-ok : goal.returns-in-Ok-clause-ok
returns-in-Ok-clause-ok c =
    let t = state_of c.args.self.now in
    let more = c.in_ok-push.ensures.items in
    c.in-Ok.ensures.ok
    ∙ ap (λ bs. with_ballots bs (participants_of (setting_of c.args.role.now) t) t) more
    ∙ voted_last (setting_of c.args.role.now) c.args.ballot t (search rules)

pub returns-in-Ok-clause-said : goal.returns-in-Ok-clause-said
returns-in-Ok-clause-said c =
    let t = state_of c.args.self.now in
    let more = c.in_ok-push.ensures.items in
    c.in-Ok.ensures.said
    ∙ ap (λ bs. c.args.out.now.mails ++ decision_mails (setting_of c.args.role.now) c.args.role.now.part c.args.who (with_ballots bs t.left t)) more
    ∙ ap (λ l. c.args.out.now.mails ++ l) (told_last (setting_of c.args.role.now) c.args.ballot t c.args.role.now.part c.args.who (search rules))

pub returns-in-Err-clause-err : goal.returns-in-Err-clause-err
returns-in-Err-clause-err c =
    let kept = c.in-Err.ensures.kept in
    let more = c.in_ok-push.ensures.items in
    let rest = c.pop.ensures.items in
    let some = c.pop.ensures.variant in
    let items : c.pop.new.self.items ≡ c.args.self.now.ballots.items = grind (arith, common_steps, kept, more, rest) in
    ap (λ (u : State). with_ballots c.pop.new.self.items u.left u) c.in-Err.ensures.err
    ∙ ap (λ bs. with_ballots bs c.args.self.now.left.items (state_of c.args.self.now)) items
