use Rattle.chain_control.specs.Links.{read_by}
use Rattle.chain_control.proofs.Steps.{set_step}
use Rattle.chain_control.proofs.links.read.Goals as goal

pub loop-link-preserved : goal.loop-link-preserved
loop-link-preserved c =
    set_step (read_by c.args.number c.args.stamp) c.args.links.now c.loop-link.links c.loop-link.link-index c.link-item.result c.read_by.new.self
    c.loop-link-test.true c.loop-link.auto.links c.loop-link.invariant c.read_by.ensures
