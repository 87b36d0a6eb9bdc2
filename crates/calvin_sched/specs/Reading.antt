-- What a transaction reads at a node, and what it leaves there.
use Rattle.std.specs.Prelude.{ℕ, List, map, filter, Bool, ◌==◌, ◌||◌, Option, Some, None, if◌then◌else◌}
use Rattle.std.specs.List.{list_all}
use Rattle.deneva_base.specs.Modes.{reads}
use Rattle.deneva_base.specs.Partitions.{partition_of}
use Rattle.deneva_base.specs.Rows.{Row, Rows, row_of, row_at, row_or_empty}
use Rattle.deneva_base.specs.declared.numbers.TxnId.{TxnId}
use Rattle.deneva_base.specs.declared.rows.Keyed.{Keyed}
use Rattle.txn_program.specs.Transactions.{reading}
use Rattle.server_core.specs.Coordinator.{at_part, to_all}
use Rattle.server_core.specs.Effects.{leaves}
use Rattle.server_core.specs.Setting.{Setting, participants_for}
use Rattle.server_core.specs.declared.messages.Mail.{Mail}
use Rattle.server_core.specs.declared.messages.Msg.TheVariants as msg
use Rattle.server_core.specs.Roles.{accesses_at}
use Rattle.calvin_sched.specs.Arrivals.{has_come, rows_of_part}
use Rattle.calvin_sched.specs.declared.arrivals.Arrival.{Arrival}

abbrev pub first_of : Option Row → Option Row → Option Row
first_of None other = other
first_of (Some row) other = Some row

-- the row of a key where these rows were left over the others
abbrev pub row_after : Rows → List Keyed → Rows
row_after rows left key = first_of (row_of left key) (rows key)

-- the rows that a transaction reads at p
abbrev pub reads_after : Setting → ℕ → Rows → TxnId → List Keyed
reads_after s p rows x = map (λ a. record { key = a.key; row = row_or_empty (rows a.key) }) (filter (λ a. reads a.mode) (accesses_at s p x))

-- those rows to each of its participants
abbrev pub mails_after : Setting → ℕ → Rows → TxnId → List Mail
mails_after s p rows x = to_all p (msg.Rows x p (reads_after s p rows x)) (participants_for s x)

-- the rows of a participant, the last of which are these
abbrev pub rows_with : List Arrival → ℕ → List Keyed → ℕ → List Keyed
rows_with list part rows q = if q == part then rows else rows_of_part list q

-- those of all participants are there, with the last
abbrev pub is_complete : Setting → List Arrival → ℕ → TxnId → Bool
is_complete s list part x = list_all (λ q. (q == part) || has_come list q) (participants_for s x)

-- the rows of the accesses that read, as they came
abbrev pub collected_from : Setting → (ℕ → List Keyed) → TxnId → List Keyed
collected_from s from x = map (λ a. record { key = a.key; row = row_at (from (partition_of a.key s.parts)) a.key }) (reading (s.accesses x))

-- what the transaction leaves at p, where it reads these rows
abbrev pub left_at : Setting → ℕ → TxnId → List Keyed → List Keyed
left_at s p x rows = at_part s.parts p (leaves (s.effect x rows))
