-- What a node knows of the transactions of its workload.
use Rattle.std.specs.Prelude.{◌≡◌, List, map}
use Rattle.deneva_base.specs.Lists.{IsIn}
use Rattle.deneva_base.specs.declared.keys.Key.{Key}
use Rattle.deneva_base.specs.declared.numbers.Number.{Number}
use Rattle.txn_program.specs.Serial.{all_ids}
use Rattle.server_core.specs.GlobalOrder.{number}
use Rattle.server_core.specs.Roles.{setting_of}
use Rattle.calvin_sched.specs.Tables.{queue_at}
use Rattle.calvin_sched.specs.declared.locks.LockTable.{LockTable}
use Rattle.server_core.specs.declared.role.Role.{Role}
use Rattle.calvin_sched.specs.declared.requests.Request.{Request}

-- their numbers, in file order
abbrev pub HasNumbers : Role → List Number → Type 0
HasNumbers a ns = ns ≡ map (number (setting_of a)) (all_ids a.work.now)

-- each request is of one of them
abbrev pub AreKnown : Role → LockTable → Type 0
AreKnown a locks = (key : Key) (r : Request) → IsIn r (queue_at locks key) → IsIn r.id (all_ids a.work.now)
