-- The rows that lie at a partition, or all of them.
use Rattle.std.proofs.Common.{◌≡◌, List, [], ◌∷◌, Option, Some, None, refl, ap}
use Rattle.std.specs.Prelude.{filter, true}
use Rattle.deneva_base.specs.declared.rows.Keyed.{Keyed}
use Rattle.txn_program.specs.declared.partitions.Partition.{Partition}
use Rattle.txn_program.specs.Transactions.{is_within, rows_within}

-- without a partition all of them
all_pass : (rows : List Keyed) → filter (λ r. true) rows ≡ rows
all_pass [] = refl
all_pass (r ∷ rows) = ap (λ (l : List Keyed). r ∷ l) (all_pass rows)

-- they are those whose keys do
pub within_by_key : (made : Option Partition) (rows : List Keyed) → filter (λ (r : Keyed). is_within made r.key) rows ≡ rows_within made rows
within_by_key None rows = all_pass rows
within_by_key (Some p) rows = refl
