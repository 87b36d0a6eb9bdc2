use Rattle.std.proofs.Common.{[], ◌∷◌, ◌++◌, ◌∙◌, sym, ap, arith}
use Rattle.std.proofs.lemmas.Option.{slice_get_past}
use Rattle.std.proofs.lemmas.Result.{on_ok_weaker}
use Rattle.server_core.specs.Roles.{setting_of}
use Rattle.server_core.specs.declared.messages.Mail.{Mail}
use Rattle.coord.specs.Attempts.{state_of}
use Rattle.coord.specs.States.{going_on, next_mails}
use Rattle.coord.proofs.attempts.Attempting.go_on.Goals as goal

pub returns-then-self-len-clause-ok : goal.returns-then-self-len-clause-ok
returns-then-self-len-clause-ok c =
    let is = slice_get_past c.args.self.now.accesses c.args.self.now.granted (omega arith) in
    on_ok_weaker c.prepare.result (λ e. e ∙ ap (λ o. going_on (setting_of c.args.role.now) (state_of c.args.self.now) o) (sym is)) c.prepare.ensures.ok

pub returns-then-self-len-clause-said : goal.returns-then-self-len-clause-said
returns-then-self-len-clause-said c =
    let is = slice_get_past c.args.self.now.accesses c.args.self.now.granted (omega arith) in
    on_ok_weaker c.prepare.result (λ e. e ∙ ap (λ o. c.args.out.now.mails ++ next_mails (setting_of c.args.role.now) c.args.role.now.part c.args.who (state_of c.args.self.now) o) (sym is)) c.prepare.ensures.said

pub returns-clause-said : goal.returns-clause-said
returns-clause-said c =
    on_ok_weaker c.say.result (λ e. e ∙ ap (λ (x : Mail). c.args.out.now.mails ++ x ∷ []) c.ask_mail.ensures ∙ ap (λ o. c.args.out.now.mails ++ next_mails (setting_of c.args.role.now) c.args.role.now.part c.args.who (state_of c.args.self.now) o) (sym c.get-access.ensures)) c.say.ensures.ok
