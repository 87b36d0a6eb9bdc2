-- What the coordinator has for each home transaction.
use Rattle.std.specs.Prelude.{◌≡◌, option_map, Option, Some, if◌then◌else◌}
use Rattle.std.specs.Map.{lookup}
use Rattle.deneva_base.specs.declared.numbers.TxnId.{TxnId}
use Rattle.deneva_base.specs.Keys.{id_eq}
use Rattle.coord.specs.declared.open.OpenTxns.{OpenTxns}
use Rattle.coord.specs.Attempts.{state_of}
use Rattle.coord.specs.States.{State}

abbrev pub state_at : OpenTxns → TxnId → Option State
state_at o x = option_map state_of (lookup (id_eq x) o.attempts.entries)

-- new has this for the transaction, and for every other what old has
abbrev pub SetsState : OpenTxns → TxnId → Option State → OpenTxns → Type 0
SetsState old x o new = (y : TxnId) → state_at new y ≡ (if id_eq x y then o else state_at old y)

abbrev pub SameStates : OpenTxns → OpenTxns → Type 0
SameStates old new = (y : TxnId) → state_at new y ≡ state_at old y

-- what holds of the state of an open transaction
abbrev pub WithState : OpenTxns → TxnId → (State → Type 0) → Type 0
WithState o x P = (t : State) → state_at o x ≡ Some t → P t
