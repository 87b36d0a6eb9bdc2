use Rattle.std.proofs.Common.{◌+◌, ◌-◌, length, arith}
use Rattle.std.proofs.lemmas.List.{take_rest, length-drop}
use Rattle.std.proofs.lemmas.Result.{err_from_is_err_and}
use Rattle.workload_text.proofs.StepByStep.{AtStep, fails_too, none_yet, step_read, step_failed}
use Rattle.workload_text.proofs.steps.steps_of.Goals as goal

pub loop-at-init : goal.loop-at-init
loop-at-init c = (length c.args.txn.now, omega arith, c.requires.word, none_yet _ _ c.new-steps.ensures)

pub returns-in_err-step : goal.returns-in_err-step
returns-in_err-step c =
    let inv = c.loop-at.invariant in
    let here : AtStep c.args.head inv.0 c.loop-at.at c.in-Some.width c.args.txn.now _ c.loop-at.steps =
    record { inside = c.loop-at-test.true; turns = inv.1; known = c.in-Some.ensures; long = c.if-more-width.false; so_far = inv.3 } in
    let p = err_from_is_err_and c.from_residual.result c.from_residual.ensures.1 in
    rw (p.1, p.2) (fails_too _ _ _ c.in_err-step.ensures (λ f bad. step_failed _ _ _ _ _ _ _ f here bad))

pub loop-at-preserved : goal.loop-at-preserved
loop-at-preserved c =
    let inv = c.loop-at.invariant in
    let here : AtStep c.args.head inv.0 c.loop-at.at c.in-Some.width c.args.txn.now _ c.loop-at.steps =
    record { inside = c.loop-at-test.true; turns = inv.1; known = c.in-Some.ensures; long = c.if-more-width.false; so_far = inv.3 } in
    let long = rw (take_rest c.args.txn.now (c.loop-at.at + 1), length-drop (c.loop-at.at + 1) c.args.txn.now) at c.if-more-width.false in
    (inv.0 - 1, omega arith, omega (arith, long), step_read _ _ _ _ _ _ _ _ _ here c.in_ok-push.ensures.ok c.in_ok-step.ensures)
