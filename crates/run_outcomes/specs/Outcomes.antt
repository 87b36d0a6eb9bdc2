-- An outcome whose rows are taken from elsewhere, and which transactions it has.
use Rattle.std.specs.Prelude.{◌⊎◌, ◌<◌, List}
use Rattle.deneva_base.specs.Lists.{IsIn}
use Rattle.deneva_base.specs.declared.numbers.TxnId.{TxnId}
use Rattle.deneva_base.specs.declared.rows.Keyed.{Keyed}
use Rattle.txn_program.specs.Serial.{all_ids}
use Rattle.txn_program.specs.declared.programs.Workload.{Workload}
use Rattle.server_core.specs.IsSerial.{IsDecided, IsGivenUp}
use Rattle.server_core.specs.declared.outcomes.Outcome.{Outcome}

-- these rows in place of its own
abbrev pub with_rows : Outcome → List Keyed → Outcome
with_rows o rows = record o { rows = rows }

abbrev pub IsOver : Outcome → TxnId → Type 0
IsOver o x = IsDecided o x ⊎ IsGivenUp o x

-- the least transaction of the workload that is neither decided nor given up
pub record IsLeastOpen (w : Workload) (o : Outcome) (x : TxnId) : Type 0 where
  pub known : IsIn x (all_ids w)
  pub undecided : IsDecided o x → ⊥
  pub not_given_up : IsGivenUp o x → ⊥
  pub least : (y : TxnId) → IsIn y (all_ids w) → y.0 < x.0 → IsOver o y
