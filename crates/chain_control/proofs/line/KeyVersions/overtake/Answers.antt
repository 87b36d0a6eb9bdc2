use Rattle.chain_control.specs.Requests.{overtaken}
use Rattle.chain_control.proofs.Steps.{set_step}
use Rattle.chain_control.proofs.line.KeyVersions.overtake.Goals as goal

pub loop-request-preserved : goal.loop-request-preserved
loop-request-preserved c =
    set_step (overtaken c.args.number) c.deref_mut-request-items.result.now c.loop-request.request-items c.loop-request.request-index _ c.overtaken.result
    c.loop-request-test.true c.loop-request.auto.request-items c.loop-request.invariant c.overtaken.ensures
