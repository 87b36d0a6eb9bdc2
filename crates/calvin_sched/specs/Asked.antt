-- The requests of transactions at a node.
use Rattle.std.specs.Prelude.{◌≡◌, ℕ, List, map, Bool, true, ◌||◌, Option, Some}
use Rattle.std.specs.List.{list_all, flat_map}
use Rattle.deneva_base.specs.Lists.{IsIn}
use Rattle.deneva_base.specs.Modes.{writes}
use Rattle.deneva_base.specs.declared.keys.Access.{Access}
use Rattle.deneva_base.specs.declared.keys.Key.{Key}
use Rattle.deneva_base.specs.declared.numbers.TxnId.{TxnId}
use Rattle.server_core.specs.Setting.{Setting}
use Rattle.server_core.specs.Roles.{accesses_at}
use Rattle.calvin_sched.specs.Queues.{is_free, heads}
use Rattle.calvin_sched.specs.declared.requests.Request.{Request}

abbrev pub request_of : TxnId → Access → Request
request_of x a = record { key = a.key; id = x; writes = writes a.mode }

abbrev pub requests_of : Setting → ℕ → TxnId → List Request
requests_of s p x = map (request_of x) (accesses_at s p x)

-- those of several, one transaction after another
abbrev pub asked : Setting → ℕ → List TxnId → List Request
asked s p xs = flat_map (requests_of s p) xs

-- no request before the transaction's own conflicts with it, at any key; those of a transaction that ends do not count
abbrev pub all_free : Setting → ℕ → (Key → List Request) → TxnId → Option TxnId → Bool
all_free s p queue x ended = list_all (λ a. is_free (writes a.mode) x ended (queue a.key)) (accesses_at s p x)

-- what lets z go when e ends: a request of z among the first at a key of e, not both to read, and it is free everywhere
abbrev pub Frees : Setting → ℕ → (Key → List Request) → TxnId → TxnId → Type 0
Frees s p queue e z = (a : Access) × IsIn a (accesses_at s p e) × (r : Request) × IsIn r (heads e (queue a.key)) × (r.id ≡ z) × ((r.writes || writes a.mode) ≡ true) × (all_free s p queue z (Some e) ≡ true)
