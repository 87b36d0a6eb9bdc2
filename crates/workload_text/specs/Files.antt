-- What the laws of workload files speak of.
use Rattle.std.specs.Prelude.{◌≡◌, ℕ, ◌^◌, List, Bool, true, ◌&&◌, nat_lt}
use Rattle.std.specs.List.{list_all}
use Rattle.deneva_base.specs.Rising.{keys_rise}
use Rattle.deneva_base.specs.Rows.{in_key_order}
use Rattle.deneva_base.specs.declared.rows.Keyed.{Keyed}
use Rattle.tpcc_rules.specs.Items.{numbers_rise}
use Rattle.tpcc_rules.specs.declared.programs.Item.{Item}
use Rattle.txn_program.specs.declared.programs.Program.{Program}
use Rattle.txn_program.specs.declared.programs.Program.TheVariants.{Ycsb, Payment, NewOrder}
use Rattle.txn_program.specs.declared.programs.Workload.{Workload}
use Rattle.workload_text.specs.SortedItems.{by_number}

-- the rows stand in strictly rising key order
abbrev pub IsRising : List Keyed → Type 0
IsRising rows = keys_rise rows ≡ true

-- the items stand in the order of their numbers, of which no two have one
abbrev pub AreByNumber : List Item → Type 0
AreByNumber items = numbers_rise items ≡ true

-- the keys of rows and steps are numbers of 32 bits, as they are in the program (those of a valid TPC-C workload always are)

abbrev pub is_short : ℕ → Bool
is_short key = nat_lt key (2 ^ 32)

abbrev pub has_short_keys : Program → Bool
has_short_keys (Ycsb steps) = list_all (λ step. is_short step.key) steps
has_short_keys (Payment p) = true
has_short_keys (NewOrder o) = true

abbrev pub AreNumbers : Workload → Type 0
AreNumbers work = (list_all (λ r. is_short r.key.a) work.load.rows && list_all has_short_keys work.programs) ≡ true

-- the workload with the rows of its load in key order, and its items in that of their numbers
abbrev pub in_order : Workload → Workload
in_order work = record work { load = record work.load { rows = in_key_order work.load.rows; items = by_number work.load.items } }
