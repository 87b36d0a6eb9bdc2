use Rattle.std.proofs.Common.{◌++◌, length, take, ap, ◌∙◌, append-nil, false}
use Rattle.std.proofs.lemmas.List.{drop_all}
use Rattle.calvin_sched.specs.Queues.{for_key}
use Rattle.calvin_sched.specs.declared.requests.Request.{Request}
use Rattle.calvin_sched.proofs.LockSteps.{take_back_step}
use Rattle.calvin_sched.proofs.locks.LockTable.take_back.Goals as goal

pub loop-request-preserved : goal.loop-request-preserved
loop-request-preserved c before h =
    let d : Request = record { key = record { table = 0; a = 0; b = 0; c = 0 }; id = record { 0 = 0 }; writes = false } in
    take_back_step c.args.asked.now c.loop-request.request-index d before c.loop-request.self c.take_back_one.new.self c.loop-request-test.true (c.loop-request.invariant before h) c.take_back_one.ensures

pub returns : goal.returns
returns c before h key =
    c.loop-request.invariant before h key
    ∙ ap (λ rs. before key ++ take (length (for_key key rs)) (for_key key c.args.asked.now)) (drop_all c.loop-request.request-index c.args.asked.now c.loop-request-test.false)
    ∙ append-nil (before key)
