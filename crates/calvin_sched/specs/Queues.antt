-- Requests for the locks of keys.
use Rattle.std.specs.Prelude.{List, [], ◌∷◌, Bool, true, false, filter, ◌&&◌, ◌||◌, not, Option, Some, None, if◌then◌else◌}
use Rattle.deneva_base.specs.Keys.{id_eq, key_eq}
use Rattle.deneva_base.specs.declared.keys.Access.{Access}
use Rattle.deneva_base.specs.declared.keys.Key.{Key}
use Rattle.deneva_base.specs.declared.numbers.TxnId.{TxnId}
use Rattle.calvin_sched.specs.declared.requests.Request.{Request}

-- those for one key
abbrev pub for_key : Key → List Request → List Request
for_key key rs = filter (λ r. key_eq r.key key) rs

-- the transaction's first request is taken out
abbrev pub without_first : TxnId → List Request → List Request
without_first id [] = []
without_first id (r ∷ rs) = if id_eq r.id id then rs else r ∷ without_first id rs

-- the queue of a key after the transaction left those of its accesses
abbrev pub left_by : TxnId → List Access → Key → List Request → List Request
left_by id [] key rs = rs
left_by id (a ∷ more) key rs = left_by id more key (if key_eq a.key key then without_first id rs else rs)

abbrev pub is_ended : Option TxnId → TxnId → Bool
is_ended None id = false
is_ended (Some ended) id = id_eq ended id

-- no request before the transaction's own conflicts with it, where it asks to write or not; those of a transaction that
-- ends do not count
abbrev pub is_free : Bool → TxnId → Option TxnId → List Request → Bool
is_free writes id ended [] = true
is_free writes id ended (r ∷ rs) = id_eq r.id id || ((is_ended ended r.id || not (writes || r.writes)) && is_free writes id ended rs)

-- the first requests of a queue without those of a transaction that ends: up to one that writes
abbrev pub heads : TxnId → List Request → List Request
heads ended [] = []
heads ended (r ∷ rs) = if id_eq r.id ended then heads ended rs else r ∷ (if r.writes then [] else heads ended rs)
