-- What is known of the setting under Calvin.
use Rattle.std.specs.Prelude.{◌≡◌, ◌≤◌, List, length, map, true, Some}
use Rattle.deneva_base.specs.Lists.{IsIn}
use Rattle.deneva_base.specs.Modes.{writes}
use Rattle.deneva_base.specs.Partitions.{partition_of}
use Rattle.deneva_base.specs.Rows.{Row}
use Rattle.deneva_base.specs.declared.keys.Access.{Access}
use Rattle.deneva_base.specs.declared.numbers.TxnId.{TxnId}
use Rattle.deneva_base.specs.declared.rows.Keyed.{Keyed}
use Rattle.txn_program.specs.Transactions.{reading}
use Rattle.server_core.specs.CalvinFits.{all_fine}
use Rattle.server_core.specs.Effects.{written, appended}
use Rattle.server_core.specs.Proper.{ids_in}
use Rattle.server_core.specs.Setting.{Setting, participants_for}

-- what a workload and its transactions are
pub record Valid (s : Setting) : Type 0 where
  pub parts : 1 ≤ s.parts
  pub once : (x : TxnId) → ids_in x s.ids ≤ 1
  pub some : (x : TxnId) → IsIn x s.ids → 1 ≤ length (s.accesses x)
  -- a row is written where the transaction has an access that writes
  pub writes : (x : TxnId) (rows : List Keyed) (w : Keyed) → IsIn x s.ids → length rows ≡ length (reading (s.accesses x)) → IsIn w (written (s.effect x rows)) → (a : Access) × IsIn a (s.accesses x) × (a.key ≡ w.key) × (writes a.mode ≡ true)
  -- a row is appended at a participant, and its key is in no access
  pub appends : (x : TxnId) (rows : List Keyed) (w : Keyed) → IsIn x s.ids → length rows ≡ length (reading (s.accesses x)) → IsIn w (appended (s.effect x rows)) → IsIn (partition_of w.key s.parts) (participants_for s x) × ((y : TxnId) (a : Access) → IsIn y s.ids → IsIn a (s.accesses y) → a.key ≡ w.key → ⊥)

-- rows are well formed: those loaded for the accesses, and those that an effect of well formed rows writes
pub record Forms (s : Setting) : Type 0 where
  pub loads : (x : TxnId) (a : Access) → IsIn x s.ids → IsIn a (s.accesses x) → (row : Row) × (s.loaded a.key ≡ Some row) × (s.fine a.key row ≡ true)
  pub effects : (x : TxnId) (rows : List Keyed) (w : Keyed) → IsIn x s.ids → map (λ k. k.key) rows ≡ map (λ a. a.key) (reading (s.accesses x)) → all_fine s rows ≡ true → IsIn w (written (s.effect x rows)) → s.fine w.key w.row ≡ true

-- the limits of workload and configuration
pub record Limits (s : Setting) : Type 0 where
  pub parts : s.parts ≤ 16
  pub ids : length s.ids ≤ 10000
