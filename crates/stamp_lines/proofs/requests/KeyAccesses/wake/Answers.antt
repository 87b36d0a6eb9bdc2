use Rattle.std.proofs.Common.{rules, ap, ◌∙◌}
use Rattle.stamp_lines.specs.Requests.{grants_to}
use Rattle.stamp_lines.proofs.Steps.{set_step}
use Rattle.stamp_lines.proofs.requests.KeyAccesses.wake.Goals as goal

pub loop-place-preserved : goal.loop-place-preserved
loop-place-preserved c =
    set_step (grants_to c.args.who) c.args.self.now c.loop-place.self-inside.requests.items c.loop-place.place c.index-request.result.now c.granted_to.result (search rules) c.loop-place.invariant
    (c.granted_to.ensures ∙ ap (grants_to c.args.who) c.index-request.ensures)
