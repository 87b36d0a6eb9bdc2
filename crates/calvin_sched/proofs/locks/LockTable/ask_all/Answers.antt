use Rattle.std.proofs.Common.{◌∙◌, false}
use Rattle.calvin_sched.specs.Tables.{queue_at}
use Rattle.calvin_sched.specs.declared.requests.Request.{Request}
use Rattle.calvin_sched.proofs.LockSteps.{ask_step}
use Rattle.calvin_sched.proofs.locks.LockTable.ask_all.Goals as goal

pub loop-place-preserved : goal.loop-place-preserved
loop-place-preserved c other =
    let d : Request = record { key = record { table = 0; a = 0; b = 0; c = 0 }; id = record { 0 = 0 }; writes = false } in
    ask_step c.args.asked.now c.loop-place.place d (queue_at c.args.self.now) (queue_at c.loop-place.self) other (queue_at c.ask.new.self other) c.loop-place-test.true c.loop-place.invariant (c.in_default.ensures.ok other)

pub returns-in-Err-clause-err : goal.returns-in-Err-clause-err
returns-in-Err-clause-err c = c.take_back.ensures (queue_at c.args.self.now) (λ key. c.in-Err.ensures.err key ∙ c.loop-place.invariant key)
