-- The rows at a node, in the words of its contract.
use Rattle.std.specs.Prelude.{◌≡◌, ℕ, List, true, Some}
use Rattle.deneva_base.specs.declared.keys.Key.{Key}
use Rattle.deneva_base.specs.declared.numbers.TxnId.{TxnId}
use Rattle.deneva_base.specs.Lists.{IsIn}
use Rattle.deneva_base.specs.Rows.{Row, Rows}
use Rattle.deneva_base.specs.Keys.{NumberLt}
use Rattle.server_core.specs.declared.messages.Msg.{Msg}
use Rattle.server_core.specs.Setting.{Setting}
use Rattle.server_core.specs.GlobalOrder.{number}
use Rattle.server_core.specs.CalvinScheduler.{is_finished, applied}

abbrev pub Changed : Setting → ℕ → List Msg → TxnId → Key → Row → Type 0
Changed s p ms x k row = IsIn (record { key = k; row = row }) (applied s p ms x)

-- for each key the row of the greatest number that a finished transaction wrote or appended, else the loaded one
pub record IsGreatest (s : Setting) (p : ℕ) (ms : List Msg) (rows : Rows) : Type 0 where
  pub written : (x : TxnId) (k : Key) (row : Row) → IsIn x s.ids → is_finished s ms x ≡ true → Changed s p ms x k row → ((other : Row) → Changed s p ms x k other → other ≡ row) → ((y : TxnId) (r : Row) → IsIn y s.ids → is_finished s ms y ≡ true → Changed s p ms y k r → NumberLt (number s x) (number s y) → ⊥) → rows k ≡ Some row
  pub untouched : (k : Key) → ((x : TxnId) (row : Row) → IsIn x s.ids → is_finished s ms x ≡ true → Changed s p ms x k row → ⊥) → rows k ≡ s.loaded k
