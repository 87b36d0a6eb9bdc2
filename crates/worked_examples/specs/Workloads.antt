-- Small workloads of one field.
use Rattle.std.specs.Prelude.{ℕ, List, [], ◌∷◌, codes}
use Rattle.deneva_base.specs.declared.config.Config.{Config}
use Rattle.deneva_base.specs.declared.config.Protocol.{Protocol}
use Rattle.deneva_base.specs.declared.config.Protocol.TheVariants.{WaitDie}
use Rattle.deneva_base.specs.declared.rows.Cell.TheVariants.{Text}
use Rattle.deneva_base.specs.declared.rows.Keyed.{Keyed}
use Rattle.txn_program.specs.Transactions.{ycsb_key}
use Rattle.txn_program.specs.declared.programs.Program.{Program}
use Rattle.txn_program.specs.declared.programs.Program.TheVariants as program
use Rattle.txn_program.specs.declared.programs.WorkKind.TheVariants as kind
use Rattle.txn_program.specs.declared.programs.Workload.{Workload}
use Rattle.txn_program.specs.declared.programs.YcsbAct.TheVariants as act
use Rattle.txn_program.specs.declared.programs.YcsbStep.{YcsbStep}

-- a loaded row
abbrev pub loads : ℕ → List ℕ → Keyed
loads key text = record { key = ycsb_key key; row = Text text ∷ [] }

-- steps that read a row, that replace its field, and that put a row
abbrev pub reads : ℕ → YcsbStep
reads key = record { key = key; act = act.Read }

abbrev pub updates : ℕ → List ℕ → YcsbStep
updates key text = record { key = key; act = act.Update (record { field = 0; text = text }) }

abbrev pub puts : ℕ → List ℕ → YcsbStep
puts key text = record { key = key; act = act.Put (Text text ∷ []) }

abbrev pub txn : List YcsbStep → Program
txn steps = program.Ycsb steps

abbrev pub workload : List Keyed → List Program → Workload
workload rows programs = record { load = record { kind = kind.Ycsb; fields = 1; rows = rows; items = [] }; programs = programs }

-- so many partitions, with 8 attempts and 16 open transactions of a node
abbrev pub over : Protocol → ℕ → Config
over protocol parts = record { protocol = protocol; parts = parts; attempts = 8; limit = 16 }

-- WAIT_DIE over two partitions, with two attempts
abbrev pub two_tries : Config
two_tries = record { protocol = WaitDie; parts = 2; attempts = 2; limit = 16 }

abbrev pub no_transaction : Workload
no_transaction = workload (loads 2 (codes "b") ∷ loads 5 (codes "a") ∷ []) []

abbrev pub one_update : Workload
one_update = workload (loads 1 (codes "a") ∷ []) (txn (updates 1 (codes "z") ∷ []) ∷ [])

-- the texts hold what ends a field or a record
abbrev pub quoted_update : Workload
quoted_update = workload (loads 1 (codes "a,\"b\"\n") ∷ []) (txn (updates 1 (codes ",") ∷ []) ∷ [])

abbrev pub two_updates : Workload
two_updates = workload (loads 1 (codes "a") ∷ []) (txn (updates 1 (codes "x") ∷ []) ∷ txn (updates 1 (codes "y") ∷ []) ∷ [])

abbrev pub two_readers : Workload
two_readers = workload (loads 1 (codes "a") ∷ []) (txn (reads 1 ∷ []) ∷ txn (reads 1 ∷ []) ∷ txn (updates 1 (codes "z") ∷ []) ∷ [])

-- the first has read another row before it asks for the one that the others update
abbrev pub three_writers : Workload
three_writers =
    workload (loads 1 (codes "a") ∷ loads 9 (codes "b") ∷ [])
    (txn (reads 9 ∷ updates 1 (codes "x") ∷ []) ∷ txn (updates 1 (codes "y") ∷ []) ∷ txn (updates 1 (codes "z") ∷ []) ∷ [])

-- the same over two partitions
abbrev pub three_writers_apart : Workload
three_writers_apart =
    workload (loads 1 (codes "a") ∷ loads 8 (codes "b") ∷ [])
    (txn (reads 8 ∷ updates 1 (codes "x") ∷ []) ∷ txn (updates 1 (codes "y") ∷ []) ∷ txn (updates 1 (codes "z") ∷ []) ∷ [])

abbrev pub late_update : Workload
late_update = workload (loads 1 (codes "a") ∷ loads 9 (codes "b") ∷ []) (txn (reads 9 ∷ updates 1 (codes "x") ∷ []) ∷ txn (reads 1 ∷ []) ∷ [])

abbrev pub old_read : Workload
old_read = workload (loads 1 (codes "a") ∷ loads 9 (codes "b") ∷ []) (txn (reads 9 ∷ reads 1 ∷ []) ∷ txn (updates 1 (codes "y") ∷ []) ∷ [])

-- three transactions over two partitions
abbrev pub crossing : Workload
crossing =
    workload (loads 1 (codes "c") ∷ loads 2 (codes "b") ∷ loads 4 (codes "a") ∷ [])
    (txn (updates 4 (codes "A") ∷ []) ∷ txn (reads 4 ∷ reads 2 ∷ updates 1 (codes "C") ∷ []) ∷ txn (updates 2 (codes "B") ∷ reads 1 ∷ []) ∷ [])

-- each reads what the other updates
abbrev pub write_skew : Workload
write_skew =
    workload (loads 1 (codes "a") ∷ loads 2 (codes "b") ∷ []) (txn (reads 1 ∷ updates 2 (codes "p") ∷ []) ∷ txn (reads 2 ∷ updates 1 (codes "q") ∷ []) ∷ [])

abbrev pub two_partitions : Workload
two_partitions =
    workload (loads 1 (codes "a") ∷ loads 2 (codes "b") ∷ []) (txn (updates 1 (codes "x") ∷ updates 2 (codes "y") ∷ []) ∷ txn (updates 2 (codes "q") ∷ []) ∷ [])

-- a read whose version four updates push out
abbrev pub trimmed_read : Workload
trimmed_read =
    workload (loads 1 (codes "a") ∷ loads 9 (codes "b") ∷ [])
    (txn (reads 9 ∷ reads 1 ∷ []) ∷ txn (updates 1 (codes "w") ∷ []) ∷ txn (updates 1 (codes "x") ∷ []) ∷ txn (updates 1 (codes "y") ∷ []) ∷ txn (updates 1 (codes "z") ∷ []) ∷ [])

abbrev pub blind_writes : Workload
blind_writes = workload (loads 1 (codes "a") ∷ loads 9 (codes "b") ∷ []) (txn (reads 9 ∷ puts 1 (codes "x") ∷ []) ∷ txn (puts 1 (codes "y") ∷ []) ∷ [])

-- nine transactions whose home is partition 1, so the last is in a second epoch; the first takes part at both partitions, and
-- the others read what it updates
abbrev pub two_epochs : Workload
two_epochs =
    workload (loads 1 (codes "a") ∷ loads 8 (codes "b") ∷ [])
    (txn (updates 1 (codes "x") ∷ reads 8 ∷ [])
    ∷ txn (reads 1 ∷ [])
    ∷ txn (reads 1 ∷ [])
    ∷ txn (reads 1 ∷ [])
    ∷ txn (reads 1 ∷ [])
    ∷ txn (reads 1 ∷ [])
    ∷ txn (reads 1 ∷ [])
    ∷ txn (reads 1 ∷ [])
    ∷ txn (reads 1 ∷ [])
    ∷ [])
