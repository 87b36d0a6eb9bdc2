use Rattle.std.proofs.Common.{map, ap, ◌∙◌}
use Rattle.std.proofs.lemmas.Result.{IfOk-weaker}
use Rattle.tpcc_rules.specs.ReadRows.{as_read}
use Rattle.server_core.specs.Effects.{leaves}
use Rattle.server_core.specs.Roles.{setting_of}
use Rattle.calvin_sched.specs.Reading.{left_at}
use Rattle.calvin_sched.proofs.Leaving.{leaves_at}
use Rattle.calvin_sched.proofs.node.CalvinNode.rows_left.Goals as goal

pub returns : goal.returns
returns c =
    let a = c.args.self.now.role in
    let s = setting_of a in
    IfOk-weaker c.lasting_rows.result _ _
    (λ left is. is ∙ ap leaves c.in_ok-effect.ensures ∙ leaves_at a.config.parts a.part (s.effect c.args.id (map as_read c.deref.result.now)) ∙ ap (λ l. left_at s a.part c.args.id (map as_read l)) c.deref.ensures.value ∙ ap (left_at s a.part c.args.id) c.in_ok-collected.ensures)
    c.lasting_rows.ensures
