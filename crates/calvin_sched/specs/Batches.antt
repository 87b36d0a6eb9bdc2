-- Batches by their places.
use Rattle.std.specs.Prelude.{◌≡◌, ℕ, List, [], length, slice_set, Option, Some, None, is_some, drop}
use Rattle.std.specs.List.{flat_map}
use Rattle.deneva_base.specs.declared.numbers.TxnId.{TxnId}
use Rattle.server_core.specs.CalvinScheduler.{as_far}
use Rattle.calvin_sched.specs.declared.batches.Batches.{Batches}

abbrev pub came : Batches → List (Option (List TxnId))
came b = b.came.items

-- as many are taken as stand first without a gap
abbrev pub AreTaken : Batches → Type 0
AreTaken b = b.taken ≡ length (as_far is_some (came b))

abbrev pub ids_in : Option (List TxnId) → List TxnId
ids_in None = []
ids_in (Some ids) = ids

-- the transactions of those that are taken when a batch comes to this place, without those taken before
abbrev pub newly : ℕ → List TxnId → List (Option (List TxnId)) → List TxnId
newly place ids list = flat_map ids_in (as_far is_some (drop (length (as_far is_some list)) (slice_set list place (Some ids))))
