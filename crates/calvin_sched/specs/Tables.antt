-- The queue of each key.
use Rattle.std.specs.Prelude.{◌≡◌, List, [], Bool, ◌==◌, ◌&&◌, Option, Some, None, if◌then◌else◌}
use Rattle.std.specs.Map.{lookup}
use Rattle.deneva_base.specs.declared.keys.Key.{Key}
use Rattle.calvin_sched.specs.declared.locks.LockTable.{LockTable}
use Rattle.calvin_sched.specs.declared.requests.Queue.{Queue}
use Rattle.calvin_sched.specs.declared.requests.Request.{Request}

-- the hash table's test of keys
abbrev pub same_key : Key → Key → Bool
same_key k q = (k.table == q.table) && ((k.a == q.a) && ((k.b == q.b) && (k.c == q.c)))

abbrev pub queue_in : Option Queue → List Request
queue_in None = []
queue_in (Some q) = q.requests.items

abbrev pub queue_at : LockTable → Key → List Request
queue_at t key = queue_in (lookup (same_key key) t.queues.entries)

-- new has at the key what is said, and at every other key what old has
abbrev pub SetsQueue : LockTable → Key → List Request → LockTable → Type 0
SetsQueue old key rs new = (other : Key) → queue_at new other ≡ (if same_key key other then rs else queue_at old other)

abbrev pub SameQueues : LockTable → LockTable → Type 0
SameQueues old new = (other : Key) → queue_at new other ≡ queue_at old other
