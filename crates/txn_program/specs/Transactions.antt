-- A transaction as a function: its accesses, its effect on the rows that it reads, and its partitions.
use Rattle.std.specs.Prelude.{ℕ, zero, suc, ◌==◌, pos, Bool, true, List, [], ◌∷◌, ◌++◌, map, slice_set, Option, Some, None}
use Rattle.std.specs.List.{list_any, filter, filter_map}
use Rattle.deneva_base.specs.Modes.{reads}
use Rattle.deneva_base.specs.Partitions.{partition_of}
use Rattle.deneva_base.specs.Rows.{row_at}
use Rattle.deneva_base.specs.declared.keys.Key.{Key}
use Rattle.deneva_base.specs.declared.keys.Mode as modes
use Rattle.deneva_base.specs.declared.keys.Mode.TheVariants as mode
use Rattle.deneva_base.specs.declared.keys.Access.{Access}
use Rattle.deneva_base.specs.declared.rows.Cell.TheVariants.{Text}
use Rattle.deneva_base.specs.declared.rows.Keyed.{Keyed}
use Rattle.deneva_base.specs.declared.numbers.TxnId.{TxnId}
use Rattle.txn_program.specs.declared.partitions.Partition.{Partition}
use Rattle.txn_program.specs.declared.programs.YcsbAct.{YcsbAct}
use Rattle.txn_program.specs.declared.programs.YcsbAct.TheVariants.{Read, Update, Put}
use Rattle.txn_program.specs.declared.programs.YcsbStep.{YcsbStep}
use Rattle.txn_program.specs.declared.programs.Program.{Program}
use Rattle.txn_program.specs.declared.programs.Program.TheVariants.{Ycsb, Payment, NewOrder}
use Rattle.txn_program.specs.declared.programs.Load.{Load}
use Rattle.tpcc_rules.specs.NewOrders.{new_order, stocks}
use Rattle.tpcc_rules.specs.Payments.{payment}
use Rattle.tpcc_rules.specs.Tables.{warehouse_key, district_key, customer_key}
use Rattle.tpcc_rules.specs.declared.programs.Item.{Item}
use Rattle.tpcc_rules.specs.declared.programs.NewOrder as orders
use Rattle.tpcc_rules.specs.declared.programs.Payment as payments
use Rattle.tpcc_rules.specs.declared.effects.Verdict.TheVariants.{Commit}
use Rattle.tpcc_rules.specs.declared.effects.Effect.{Effect}

-- the key of a YCSB row
abbrev pub ycsb_key : ℕ → Key
ycsb_key n = record { table = 0; a = n; b = 0; c = 0 }

abbrev pub mode_of : YcsbAct → modes.Mode
mode_of Read = mode.Read
mode_of (Update put) = mode.Update
mode_of (Put row) = mode.Put

abbrev pub access_of : YcsbStep → Access
access_of step = record { key = ycsb_key step.key; mode = mode_of step.act }

abbrev pub reads_key : Key → Access
reads_key key = record { key = key; mode = mode.Read }

abbrev pub updates_key : Key → Access
updates_key key = record { key = key; mode = mode.Update }

abbrev pub payment_accesses : payments.Payment → List Access
payment_accesses p = updates_key (warehouse_key p.w) ∷ updates_key (district_key p.w p.d) ∷ updates_key (customer_key p.cw p.cd p.c) ∷ []

-- the stocks of the lines whose items are loaded come last, each once
abbrev pub new_order_accesses : List Item → orders.NewOrder → List Access
new_order_accesses items o =
    reads_key (warehouse_key o.w) ∷ updates_key (district_key o.w o.d) ∷ reads_key (customer_key o.w o.d o.c)
    ∷ map updates_key (stocks items o.lines)

-- the accesses of a transaction, in its order
abbrev pub accesses : Load → Program → List Access
accesses load (Ycsb steps) = map access_of steps
accesses load (Payment p) = payment_accesses p
accesses load (NewOrder o) = new_order_accesses load.items o

-- those that read
abbrev pub reading : List Access → List Access
reading list = filter (λ a. reads a.mode) list

-- what is written to a key, where the transaction reads these rows: an Update its row with one field replaced, a Put its own
abbrev pub written_to : List Keyed → Key → YcsbAct → Option Keyed
written_to rows key Read = None
written_to rows key (Update put) = Some (record { key = key; row = slice_set (row_at rows key) put.field (Text put.text) })
written_to rows key (Put row) = Some (record { key = key; row = row })

abbrev pub written : List Keyed → YcsbStep → Option Keyed
written rows step = written_to rows (ycsb_key step.key) step.act

-- what a transaction makes of the rows of its accesses that read
abbrev pub effect : Load → TxnId → Program → List Keyed → Effect
effect load id (Ycsb steps) rows = record { verdict = Commit; writes = filter_map (written rows) steps; appends = []; answer = pos 0 }
effect load id (Payment p) rows = payment id p rows
effect load id (NewOrder o) rows = new_order load.items id o rows

-- what of an effect lies at a partition
abbrev pub effect_at : ℕ → ℕ → Effect → Effect
effect_at parts p e =
    record {
      verdict = e.verdict;
      writes = filter (λ r. partition_of r.key parts == p) e.writes;
      appends = filter (λ r. partition_of r.key parts == p) e.appends;
      answer = e.answer;
    }

-- the same for one partition, and without one all of it
abbrev pub is_within : Option Partition → Key → Bool
is_within None key = true
is_within (Some q) key = partition_of key q.parts == q.part

abbrev pub rows_within : Option Partition → List Keyed → List Keyed
rows_within None rows = rows
rows_within (Some q) rows = filter (λ r. partition_of r.key q.parts == q.part) rows

abbrev pub effect_within : Option Partition → Effect → Effect
effect_within None e = e
effect_within (Some q) e = effect_at q.parts q.part e

abbrev pub first_key : List Access → Key
first_key [] = ycsb_key 0
first_key (a ∷ more) = a.key

-- the partition of the first access
abbrev pub home_of : Load → Program → ℕ → ℕ
home_of load program parts = partition_of (first_key (accesses load program)) parts

-- 0, 1 and so on, all below n
abbrev pub numbers_below : ℕ → List ℕ
numbers_below zero = []
numbers_below (suc n) = numbers_below n ++ n ∷ []

-- the partitions of these accesses, in rising order
abbrev pub partitions_of : ℕ → List Access → List ℕ
partitions_of parts list = filter (λ p. list_any (λ a. partition_of a.key parts == p) list) (numbers_below parts)

abbrev pub participants : Load → Program → ℕ → List ℕ
participants load program parts = partitions_of parts (accesses load program)
