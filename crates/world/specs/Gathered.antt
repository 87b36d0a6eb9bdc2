-- The rows of all nodes, one node after another.
use Rattle.std.specs.Prelude.{◌≡◌, ℕ, List, length, slice_get, Some, true}
use Rattle.deneva_base.specs.Rising.{keys_rise}
use Rattle.deneva_base.specs.Rows.{row_of}
use Rattle.deneva_base.specs.declared.keys.Key.{Key}
use Rattle.deneva_base.specs.declared.rows.Keyed.{Keyed}
use Rattle.server_core.specs.Roles.{Role, rows_of_role}
use Rattle.server_core.specs.declared.messages.Msg.{Msg}
use Rattle.world.specs.Chunks.{joined}

-- what a node hands out: in key order, the rows that its messages leave
pub record AreRowsOf {S : Type 0} (role : S → Role) (stands : S → List Msg → Type 0) (s : S) (rows : List Keyed) : Type 0 where
  pub order : keys_rise rows ≡ true
  pub rows_are : (ms : List Msg) → stands s ms → (key : Key) → row_of rows key ≡ rows_of_role (role s) ms key

pub record Gathered {S : Type 0} (role : S → Role) (stands : S → List Msg → Type 0) (nodes : List S) (rows : List Keyed) : Type 0 where
  pub lists : List (List Keyed)
  pub all : rows ≡ joined lists
  pub count : length lists ≡ length nodes
  pub each : (p : ℕ) (s : S) (l : List Keyed) → slice_get nodes p ≡ Some s → slice_get lists p ≡ Some l → AreRowsOf role stands s l
