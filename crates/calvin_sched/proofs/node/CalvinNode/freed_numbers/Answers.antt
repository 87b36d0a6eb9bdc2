use Rattle.std.proofs.Common.{[]}
use Rattle.server_core.specs.Roles.{setting_of}
use Rattle.calvin_sched.specs.Freed.{freed_on}
use Rattle.calvin_sched.specs.Tables.{queue_at}
use Rattle.calvin_sched.proofs.FreedSteps.{put_more}
use Rattle.calvin_sched.proofs.node.CalvinNode.freed_numbers.Goals as goal

pub loop-access-preserved : goal.loop-access-preserved
loop-access-preserved c =
    let n = c.args.self.now in
    put_more (freed_on (setting_of n.role) n.role.part (queue_at n.locks) c.args.ended) [] c.args.accesses.now c.loop-access.access-index _ _ _ c.loop-access-test.true c.loop-access.invariant c.in_ok-add_freed.ensures
