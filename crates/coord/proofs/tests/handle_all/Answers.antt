use Rattle.std.proofs.Common.{◌+◌, ◌∷◌, drop, sym, subst}
use Rattle.server_core.specs.Roles.{FitsRole}
use Rattle.coord.specs.Standing.{role_of}
use Rattle.coord.specs.Trials.{FitInTurn}
use Rattle.coord.proofs.Trying.{fit_one}
use Rattle.coord.proofs.tests.handle_all.Goals as goal

pub step-requires : goal.step-requires
step-requires c =
    let inv = c.loop-msg.invariant in
    let one = fit_one (role_of c.loop-msg.coord) inv.0 c.args.msgs.now c.loop-msg.msg-index c.msg-item.result c.loop-msg-test.true inv.1.1 in
    let h = c.msg-item.is in
    record { fits = (one.0.0, (inv.0, inv.1.0, subst (λ m. FitsRole (role_of c.loop-msg.coord) one.0.0 m inv.0) (sym c.msg-item.is) one.0.1)) }

pub loop-msg-preserved : goal.loop-msg-preserved
loop-msg-preserved c =
    let inv = c.loop-msg.invariant in
    let one = fit_one (role_of c.loop-msg.coord) inv.0 c.args.msgs.now c.loop-msg.msg-index c.msg-item.result c.loop-msg-test.true inv.1.1 in
    let fits = subst (λ m. FitsRole (role_of c.loop-msg.coord) one.0.0 m inv.0) (sym c.msg-item.is) one.0.1 in
    let more = subst (λ m. FitInTurn (role_of c.loop-msg.coord) (m ∷ inv.0) (drop (c.loop-msg.msg-index + 1) c.args.msgs.now)) (sym c.msg-item.is) one.1 in
    (c.msg-item.result ∷ inv.0, (c.in_ok-step.ensures.stands one.0.0 inv.0 inv.1.0 fits, subst (λ r. FitInTurn r (c.msg-item.result ∷ inv.0) (drop (c.loop-msg.msg-index + 1) c.args.msgs.now)) (sym c.in_ok-step.ensures.role) more))
