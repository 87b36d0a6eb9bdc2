-- Transactions that Calvin finished.
use Rattle.std.specs.Prelude.{◌≡◌, ℕ, Bool, List, map}
use Rattle.std.specs.List.{filter, list_all}
use Rattle.deneva_base.specs.Partitions.{partition_of}
use Rattle.deneva_base.specs.Rows.{row_at}
use Rattle.deneva_base.specs.declared.keys.Access.{Access}
use Rattle.deneva_base.specs.declared.numbers.TxnId.{TxnId}
use Rattle.deneva_base.specs.declared.rows.Keyed.{Keyed}
use Rattle.txn_program.specs.Transactions.{reading}
use Rattle.server_core.specs.GlobalOrder.{index_of, number}
use Rattle.server_core.specs.CalvinScheduler.{has_finished, rows_from, collected}
use Rattle.server_core.specs.Lines.{decided_as}
use Rattle.server_core.specs.Runs.{heard}
use Rattle.server_core.specs.Setting.{Setting, home, homes, participants_for}
use Rattle.server_core.specs.declared.messages.Entry.{Entry}
use Rattle.server_core.specs.declared.messages.Msg.{Msg}
use Rattle.server_core.specs.declared.outcomes.Decided.{Decided}

-- the rows of those of these accesses that read, as they came
abbrev pub gathered : ℕ → List Msg → TxnId → List Access → List Keyed
gathered parts ms x list = map (λ a. record { key = a.key; row = row_at (rows_from ms x (partition_of a.key parts)) a.key }) (reading list)

abbrev pub is_finished : Setting → List Entry → TxnId → Bool
is_finished s H x = list_all (has_finished (heard (home s x) H) x) (participants_for s x)

abbrev pub finished_line : Setting → List Entry → TxnId → Decided
finished_line s H x = decided_as s x (number s x).n (collected s (heard (home s x) H) x)

-- the lines of the finished ones of these transactions
abbrev pub finished_lines_of : Setting → List Entry → List TxnId → List Decided
finished_lines_of s H xs = map (finished_line s H) (filter (is_finished s H) xs)

-- so many home transactions of its node stand before it
abbrev pub IsPlace : Setting → TxnId → ℕ → Type 0
IsPlace s x place = index_of x (homes s (home s x)) ≡ place
