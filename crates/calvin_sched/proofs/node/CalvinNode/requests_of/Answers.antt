use Rattle.calvin_sched.proofs.FreedSteps.{in_at}
use Rattle.calvin_sched.proofs.node.CalvinNode.requests_of.Goals as goal

pub push_requests-requires : goal.push_requests-requires
push_requests-requires c = record { id = c.requires.ids _ (in_at c.loop-id.id-index c.args.ids.now _ c.loop-id-test.true) }
