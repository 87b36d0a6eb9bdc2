use Rattle.std.proofs.Common.{◌∙◌}
use Rattle.deneva_base.specs.declared.keys.Mode.TheVariants.{Read}
use Rattle.deneva_base.specs.declared.keys.Access.{Access}
use Rattle.calvin_sched.specs.Tables.{queue_at}
use Rattle.calvin_sched.proofs.LockSteps.{leave_step}
use Rattle.calvin_sched.proofs.locks.LockTable.leave.Goals as goal

pub loop-access-preserved : goal.loop-access-preserved
loop-access-preserved c other =
    let d : Access = record { key = record { table = 0; a = 0; b = 0; c = 0 }; mode = Read } in
    leave_step c.args.id c.args.accesses.now c.loop-access.access-index d (queue_at c.loop-access.self) other (queue_at c.leave_one.new.self other) c.loop-access-test.true (c.leave_one.ensures other)
    ∙ c.loop-access.invariant other
