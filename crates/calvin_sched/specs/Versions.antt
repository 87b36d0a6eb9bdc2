-- The version of each key at a node.
use Rattle.std.specs.Prelude.{ℕ, List, [], ◌∷◌, filter, Option, Some, None, option_map}
use Rattle.deneva_base.specs.Rows.{Row, row_of}
use Rattle.deneva_base.specs.declared.keys.Key.{Key}
use Rattle.deneva_base.specs.declared.numbers.Number.{Number}
use Rattle.deneva_base.specs.declared.numbers.TxnId.{TxnId}
use Rattle.deneva_base.specs.declared.rows.Keyed.{Keyed}
use Rattle.row_store.specs.Stores.{loaded, numbered, newest}
use Rattle.row_store.specs.declared.versions.Version.{Version}
use Rattle.server_core.specs.GlobalOrder.{order, number}
use Rattle.server_core.specs.CalvinScheduler.{is_finished, applied}
use Rattle.server_core.specs.Setting.{Setting}
use Rattle.server_core.specs.declared.messages.Msg.{Msg}

-- the version of the greater number: the one that is there, or this row, if there is one
abbrev pub offered : Option Version → Number → Option Row → Option Version
offered v number None = v
offered v number (Some row) = newest v (numbered number row)

-- the version of a key after these transactions left rows, one after another
abbrev pub versions : (TxnId → Number) → (TxnId → List Keyed) → Key → Option Version → List TxnId → Option Version
versions number left key v [] = v
versions number left key v (x ∷ xs) = versions number left key (offered v (number x) (row_of (left x) key)) xs

-- that of the greatest number which a finished transaction left at p, and else the loaded one
abbrev pub version : Setting → ℕ → List Msg → Key → Option Version
version s p ms key = versions (number s) (applied s p ms) key (option_map loaded (s.loaded key)) (filter (is_finished s ms) (order s))
