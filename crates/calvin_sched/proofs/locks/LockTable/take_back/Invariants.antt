use Rattle.std.proofs.Common.{◌≡◌, ◌++◌, List, drop, take, length}
use Rattle.deneva_base.specs.declared.keys.Key.{Key}
use Rattle.calvin_sched.specs.Queues.{for_key}
use Rattle.calvin_sched.specs.Tables.{queue_at}
use Rattle.calvin_sched.specs.declared.requests.Request.{Request}
use Rattle.calvin_sched.proofs.locks.LockTable.take_back.Given as goal

-- at each key the first requests stay, as many as are left to be taken back
abbrev pub invariant-loop-request : goal.invariant-loop-request
invariant-loop-request l = (before : Key → List Request) → ((key : Key) → queue_at l.fn.self key ≡ before key ++ for_key key l.asked) → (key : Key) → queue_at l.self key ≡ before key ++ take (length (for_key key (drop l.request-index l.asked))) (for_key key l.asked)
