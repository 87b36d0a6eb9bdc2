use Rattle.range_control.specs.Accesses.{overtaken}
use Rattle.range_control.proofs.Steps.{set_step}
use Rattle.range_control.proofs.accesses.KeyAccesses.overtake.Goals as goal

pub loop-held-preserved : goal.loop-held-preserved
loop-held-preserved c =
    set_step (overtaken c.args.by c.args.number) c.deref_mut-held-items.result.now c.loop-held.held-items c.loop-held.held-index _ c.overtaken.result
    c.loop-held-test.true c.loop-held.auto.held-items c.loop-held.invariant c.overtaken.ensures
