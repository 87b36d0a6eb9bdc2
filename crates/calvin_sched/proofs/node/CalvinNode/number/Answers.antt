use Rattle.std.proofs.Common.{◌∙◌, arith, length, ap}
use Rattle.std.proofs.lemmas.List.{length-map}
use Rattle.txn_program.specs.Serial.{all_ids}
use Rattle.txn_program.proofs.Ids.{id_between}
use Rattle.server_core.specs.GlobalOrder.{number}
use Rattle.server_core.specs.Roles.{setting_of}
use Rattle.calvin_sched.proofs.FreedSteps.{own_at}
use Rattle.calvin_sched.proofs.node.CalvinNode.number.Goals as goal

pub overflow_sub-id : goal.overflow_sub-id
overflow_sub-id c = (id_between c.args.self.now.role.work.now c.args.id c.requires.id).0

pub index-requires : goal.index-requires
index-requires c =
    let p = c.args.self.now.role in
    let b = id_between p.work.now c.args.id c.requires.id in
    let all = ap length c.requires.numbers ∙ length-map (all_ids p.work.now) (number (setting_of p)) in
    omega (arith, b.0, b.1, all, c.args.self.now.numbers.ok)

pub returns : goal.returns
returns c =
    let p = c.args.self.now.role in
    own_at p.work.now (number (setting_of p)) c.args.self.now.numbers.items c.args.id c.index.result.now c.requires.numbers c.requires.id c.index.ensures
