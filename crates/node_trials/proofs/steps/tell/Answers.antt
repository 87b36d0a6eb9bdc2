use Rattle.std.proofs.Common.{◌∷◌, ◌+◌, drop, sym, subst}
use Rattle.server_core.specs.Roles.{Role, FitsRole}
use Rattle.node_trials.specs.declared.steps.Step.{Step}
use Rattle.node_trials.specs.Trials.{FitInTurn}
use Rattle.node_trials.proofs.Listing.{fits_one}
use Rattle.node_trials.proofs.steps.tell.Goals as goal

pub handle-requires : goal.handle-requires
handle-requires g c =
    let inv = c.loop-step.invariant in
    let r = g.S.Handles.role c.loop-step.node in
    let one = fits_one r inv.0 c.args.steps.now c.loop-step.step-index c.step-item.result c.loop-step-test.true inv.2 in
    record { fits = (inv.0, inv.1, subst (λ (x : Step). FitsRole r x.from x.msg inv.0) (sym c.step-item.is) one.0) }

pub loop-step-preserved : goal.loop-step-preserved
loop-step-preserved g c =
    let inv = c.loop-step.invariant in
    let r = g.S.Handles.role c.loop-step.node in
    let one = fits_one r inv.0 c.args.steps.now c.loop-step.step-index c.step-item.result c.loop-step-test.true inv.2 in
    let fits = subst (λ (x : Step). FitsRole r x.from x.msg inv.0) (sym c.step-item.is) one.0 in
    let left = drop (c.loop-step.step-index + 1) c.args.steps.now in
    let rest = subst (λ (x : Step). FitInTurn r (x.msg ∷ inv.0) left) (sym c.step-item.is) one.1 in
    (c.step-item.result.msg ∷ inv.0, c.in_ok-handle.ensures.stands inv.0 inv.1 fits, subst (λ (q : Role). FitInTurn q (c.step-item.result.msg ∷ inv.0) left) (sym c.handle.ensures.role) rest)
