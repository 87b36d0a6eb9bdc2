use Rattle.std.proofs.Common.{◌++◌, sym, ap, ◌∙◌, append-nil, arith}
use Rattle.std.proofs.lemmas.Option.{slice_get_past, slice_get_read}
use Rattle.std.proofs.lemmas.Result.{on_ok_weaker}
use Rattle.server_core.specs.Coordinator.{mail_start}
use Rattle.coord.proofs.coord.Coord.say_next.Goals as goal

pub returns-then-self-len-clause-ok : goal.returns-then-self-len-clause-ok
returns-then-self-len-clause-ok c = sym (append-nil c.args.out.now.mails) ∙ ap (λ o. c.args.out.now.mails ++ mail_start c.args.self.now.role.part o) (sym (slice_get_past c.args.self.now.homes.items c.args.self.now.next (omega arith)))

pub returns-clause-ok : goal.returns-clause-ok
returns-clause-ok c =
    let is = slice_get_read c.args.self.now.homes.items c.len.result c.args.self.now.next c.index-txn.result.now (omega arith) c.if-self-len.false c.index-txn.ensures in
    on_ok_weaker c.say_start.result (λ e. e ∙ ap (λ o. c.args.out.now.mails ++ mail_start c.args.self.now.role.part o) (sym is)) c.say_start.ensures.ok
