use Rattle.std.proofs.Common.{◌++◌, ◌∙◌, refl, sym, ap, append-nil, arith}
use Rattle.std.proofs.lemmas.Option.{slice_get_past}
use Rattle.server_core.specs.Roles.{setting_of}
use Rattle.coord.specs.Attempts.{state_of, reply_of}
use Rattle.coord.specs.States.{mails_as}
use Rattle.coord.proofs.attempts.Attempting.hear_grant.Goals as goal

pub returns-then-self-len-clause-said : goal.returns-then-self-len-clause-said
returns-then-self-len-clause-said c =
    let is = slice_get_past c.args.self.now.accesses c.args.self.now.granted (omega arith) in
    sym (append-nil c.args.out.now.mails) ∙ ap (λ o. c.args.out.now.mails ++ mails_as (setting_of c.args.role.now) c.args.role.now.part c.args.who (reply_of c.args.grant) (state_of c.args.self.now) o) (sym is)

pub returns-in-Err-clause-err : goal.returns-in-Err-clause-err
returns-in-Err-clause-err c = c.give_back.ensures (state_of c.args.self.now) (reply_of c.args.grant) (c.in-Err.ensures.err ∙ c.in_ok-take.ensures.ok) refl
