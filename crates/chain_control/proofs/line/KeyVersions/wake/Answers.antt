use Rattle.chain_control.specs.Requests.{grants_to}
use Rattle.chain_control.proofs.Steps.{set_step}
use Rattle.chain_control.proofs.line.KeyVersions.wake.Goals as goal

pub loop-request-preserved : goal.loop-request-preserved
loop-request-preserved c =
    set_step (grants_to c.args.who) c.deref_mut-request-items.result.now c.loop-request.request-items c.loop-request.request-index _ c.granted_to.result
    c.loop-request-test.true c.loop-request.auto.request-items c.loop-request.invariant c.granted_to.ensures
