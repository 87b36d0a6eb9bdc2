-- The rows that came for a transaction.
use Rattle.std.specs.Prelude.{◌≡◌, ℕ, List, [], ◌∷◌, Bool, ◌==◌, Option, Some, None, if◌then◌else◌}
use Rattle.std.specs.List.{list_any}
use Rattle.std.specs.Map.{lookup}
use Rattle.deneva_base.specs.Keys.{id_eq}
use Rattle.deneva_base.specs.declared.numbers.TxnId.{TxnId}
use Rattle.deneva_base.specs.declared.rows.Keyed.{Keyed}
use Rattle.calvin_sched.specs.declared.arrivals.Arrival.{Arrival}
use Rattle.calvin_sched.specs.declared.arrivals.Arrived.{Arrived}
use Rattle.calvin_sched.specs.declared.arrivals.Arrivals.{Arrivals}

abbrev pub arrivals_in : Option Arrived → List Arrival
arrivals_in None = []
arrivals_in (Some a) = a.list.items

abbrev pub arrivals_at : Arrivals → TxnId → List Arrival
arrivals_at t id = arrivals_in (lookup (id_eq id) t.arrived.entries)

-- new has for the transaction what is said, and for every other what old has
abbrev pub Sets : Arrivals → TxnId → List Arrival → Arrivals → Type 0
Sets old id list new = (other : TxnId) → arrivals_at new other ≡ (if id_eq id other then list else arrivals_at old other)

abbrev pub Same : Arrivals → Arrivals → Type 0
Same old new = (other : TxnId) → arrivals_at new other ≡ arrivals_at old other

abbrev pub has_come : List Arrival → ℕ → Bool
has_come list part = list_any (λ a. a.part == part) list

abbrev pub rows_of_part : List Arrival → ℕ → List Keyed
rows_of_part [] part = []
rows_of_part (a ∷ more) part = if a.part == part then a.rows else rows_of_part more part
