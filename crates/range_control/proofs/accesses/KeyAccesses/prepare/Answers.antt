use Rattle.range_control.specs.Accesses.{prepared_in}
use Rattle.range_control.proofs.Steps.{set_step}
use Rattle.range_control.proofs.accesses.KeyAccesses.prepare.Goals as goal

pub loop-held-preserved : goal.loop-held-preserved
loop-held-preserved c =
    set_step (prepared_in c.args.who c.args.window) c.deref_mut-held-items.result.now c.loop-held.held-items c.loop-held.held-index _ c.prepared.result
    c.loop-held-test.true c.loop-held.auto.held-items c.loop-held.invariant c.prepared.ensures
