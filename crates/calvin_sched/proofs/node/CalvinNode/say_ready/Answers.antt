use Rattle.std.proofs.Common.{subst, ◌∙◌, ◌&&◌, None}
use Rattle.deneva_base.specs.Lists.{IsIn}
use Rattle.deneva_base.specs.declared.numbers.TxnId.{TxnId}
use Rattle.deneva_base.proofs.Membership.{filter_in}
use Rattle.server_core.specs.CalvinScheduler.{participates}
use Rattle.server_core.specs.Roles.{setting_of}
use Rattle.calvin_sched.specs.Asked.{all_free}
use Rattle.calvin_sched.specs.Tables.{queue_at}
use Rattle.calvin_sched.proofs.FreedSteps.{in_at}
use Rattle.calvin_sched.proofs.node.CalvinNode.say_ready.Goals as goal

pub push_reads-requires : goal.push_reads-requires
push_reads-requires c =
    let n = c.args.self.now in
    let s = setting_of n.role in
    let i = in_at c.loop-id.id-index c.deref-id-items.result.now _ c.loop-id-test.true in
    record { id = c.requires.ids _ (filter_in (λ (x : TxnId). participates s x n.role.part && all_free s n.role.part (queue_at n.locks) x None) _ c.args.fresh.now (subst (IsIn _) (c.deref-id-items.ensures.value ∙ c.in_ok-ready.ensures) i)).0 }
