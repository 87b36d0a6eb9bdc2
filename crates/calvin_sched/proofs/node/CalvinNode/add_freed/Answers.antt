use Rattle.std.proofs.Common.{subst}
use Rattle.deneva_base.specs.Lists.{IsIn}
use Rattle.calvin_sched.proofs.FreedSteps.{in_at}
use Rattle.calvin_sched.proofs.node.CalvinNode.add_freed.Goals as goal

pub is_freed-requires : goal.is_freed-requires
is_freed-requires c = let i = in_at c.loop-request.request-index c.queue-request-items.result.now _ c.loop-request-test.true in record { id = c.requires.known c.args.access.key _ (subst (IsIn _) c.queue-request-items.ensures i) }

pub number-requires-clause-id : goal.number-requires-clause-id
number-requires-clause-id c = let i = in_at c.loop-request.request-index c.queue-request-items.result.now _ c.loop-request-test.true in c.requires.known c.args.access.key _ (subst (IsIn _) c.queue-request-items.ensures i)
