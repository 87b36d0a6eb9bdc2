use Rattle.std.proofs.Common.{◌≡◌, drop}
use Rattle.deneva_base.specs.declared.keys.Key.{Key}
use Rattle.calvin_sched.specs.Queues.{left_by}
use Rattle.calvin_sched.specs.Tables.{queue_at}
use Rattle.calvin_sched.proofs.locks.LockTable.leave.Given as goal

-- the accesses that are left lead on to the end
abbrev pub invariant-loop-access : goal.invariant-loop-access
invariant-loop-access l = (key : Key) → left_by l.id (drop l.access-index l.accesses) key (queue_at l.self key) ≡ left_by l.id l.accesses key (queue_at l.fn.self key)
