use Rattle.std.proofs.Common.{rules, ap, ◌∙◌}
use Rattle.lock_control.specs.Requests.{grants_to}
use Rattle.lock_control.proofs.Steps.{set_step}
use Rattle.lock_control.proofs.requests.KeyLocks.wake.Goals as goal

pub loop-place-preserved : goal.loop-place-preserved
loop-place-preserved c =
    let inv = c.loop-place.invariant in
    record {
      requests = set_step (grants_to c.args.who) c.args.self.now.requests c.loop-place.self-inside.requests.items c.loop-place.place c.index-request.result.now c.granted_to.result (search rules) inv.requests
          (c.granted_to.ensures ∙ ap (grants_to c.args.who) c.index-request.ensures);
      accessed = inv.accessed;
      written = inv.written;
    }
