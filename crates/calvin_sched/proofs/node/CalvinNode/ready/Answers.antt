use Rattle.calvin_sched.proofs.FreedSteps.{in_at}
use Rattle.calvin_sched.proofs.node.CalvinNode.ready.Goals as goal

pub is_ready-requires : goal.is_ready-requires
is_ready-requires c = record { id = c.requires.ids _ (in_at c.loop-id.id-index c.args.ids.now _ c.loop-id-test.true) }
