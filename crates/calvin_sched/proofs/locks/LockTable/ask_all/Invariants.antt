use Rattle.std.proofs.Common.{◌≡◌, ◌++◌, take}
use Rattle.deneva_base.specs.declared.keys.Key.{Key}
use Rattle.calvin_sched.specs.Queues.{for_key}
use Rattle.calvin_sched.specs.Tables.{queue_at}
use Rattle.calvin_sched.proofs.locks.LockTable.ask_all.Given as goal

-- those so far stand at the ends of their queues
abbrev pub invariant-loop-place : goal.invariant-loop-place
invariant-loop-place l = (key : Key) → queue_at l.self key ≡ queue_at l.fn.self key ++ for_key key (take l.place l.asked)
