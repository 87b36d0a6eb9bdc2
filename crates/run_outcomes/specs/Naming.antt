-- Which entries of a run are about which transaction.
use Rattle.std.specs.Prelude.{ℕ, ◌+◌, List, map, Bool, false, Option, Some, None}
use Rattle.std.specs.List.{filter}
use Rattle.deneva_base.specs.Keys.{id_eq}
use Rattle.deneva_base.specs.declared.numbers.TxnId.{TxnId}
use Rattle.txn_program.specs.Transactions.{numbers_below}
use Rattle.server_core.specs.Messages.{txn_of}
use Rattle.server_core.specs.declared.messages.Entry.{Entry}
use Rattle.server_core.specs.declared.messages.Msg.{Msg}

abbrev pub is_id : TxnId → Option TxnId → Bool
is_id x None = false
is_id x (Some y) = id_eq y x

abbrev pub is_about : TxnId → Msg → Bool
is_about x m = is_id x (txn_of m)

-- the entries that are about it, in their order
abbrev pub entries_of : TxnId → List Entry → List Entry
entries_of x H = filter (λ e. is_about x e.msg) H

-- those of each of the first n transactions
abbrev pub groups_of : ℕ → List Entry → List (List Entry)
groups_of n H = map (λ k. entries_of (record { 0 = k + 1 }) H) (numbers_below n)
