use Rattle.std.proofs.Common.{◌≡◌, ◌++◌, ◌∷◌, [], sym, ap, ap₂, ◌∙◌, arith, List, length, slice_get, Some}
use Rattle.deneva_base.specs.declared.keys.Access.{Access}
use Rattle.server_core.specs.declared.messages.Mail.{Mail}
use Rattle.txn_program.proofs.WorkloadLaws.{some_accesses}
use Rattle.server_core.specs.Roles.{setting_of}
use Rattle.coord.specs.Moves.{stamp_for}
use Rattle.coord.specs.States.{ask_first}
use Rattle.coord.proofs.coord.Coord.start.Goals as goal

pub get-first-requires : goal.get-first-requires
get-first-requires c =
    let same = c.in_ok-accesses.ensures in
    let some = some_accesses c.args.self.now.role.work.now c.args.self.now.role.valid c.args.who.txn c.requires.id in
    let long = ap (λ (l : List Access). length l) same in
    omega (arith, some, long)

pub returns-clause-said : goal.returns-clause-said
returns-clause-said c =
    let same = c.in_ok-accesses.ensures in
    let first : slice_get ((setting_of c.args.self.now.role).accesses c.args.who.txn) 0 ≡ Some c.get-first.result.now = ap (λ (l : List Access). slice_get l 0) (sym same) ∙ c.get-first.ensures in
    c.append.ensures.mails
    ∙ ap₂ (λ (l : List Mail) (x : Mail). l ++ x ∷ []) c.in_ok-reserve.ensures.mails c.ask_mail.ensures
    ∙ ap (λ n. c.args.out.now.mails ++ ask_first (setting_of c.args.self.now.role) c.args.self.now.role.part c.args.who n (Some c.get-first.result.now)) c.stamp-stamp.ensures
    ∙ ap (λ o. c.args.out.now.mails ++ ask_first (setting_of c.args.self.now.role) c.args.self.now.role.part c.args.who (stamp_for c.args.self.now c.args.who) o) (sym first)
