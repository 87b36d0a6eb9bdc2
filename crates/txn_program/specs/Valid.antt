-- The workloads that some file gives.
use Rattle.std.specs.Prelude.{ℕ, pos, List, [], ◌∷◌, map, length, Bool, true, false, not, ◌&&◌, ◌||◌, ◌==◌, nat_le, nat_lt, int_le, if◌then◌else◌, ◌≡◌}
use Rattle.std.specs.List.{list_any, list_all}
use Rattle.deneva_base.specs.Keys.{key_eq}
use Rattle.deneva_base.specs.Rows.{has_key}
use Rattle.deneva_base.specs.declared.keys.Key.{Key}
use Rattle.deneva_base.specs.declared.rows.Cell.{Cell}
use Rattle.deneva_base.specs.declared.rows.Cell.TheVariants.{Num, Text}
use Rattle.deneva_base.specs.declared.rows.Keyed.{Keyed}
use Rattle.tpcc_rules.specs.Items.{have_own_numbers}
use Rattle.tpcc_rules.specs.NewOrders.{is_loaded, stock_of}
use Rattle.tpcc_rules.specs.Tables.{is_loaded_row, warehouse_key, district_key, customer_key}
use Rattle.tpcc_rules.specs.declared.programs.Item.{Item}
use Rattle.tpcc_rules.specs.declared.programs.Line.{Line}
use Rattle.tpcc_rules.specs.declared.programs.NewOrder as orders
use Rattle.tpcc_rules.specs.declared.programs.Payment as payments
use Rattle.txn_program.specs.declared.programs.YcsbAct.{YcsbAct}
use Rattle.txn_program.specs.declared.programs.YcsbAct.TheVariants.{Read, Update, Put}
use Rattle.txn_program.specs.declared.programs.YcsbStep.{YcsbStep}
use Rattle.txn_program.specs.declared.programs.Program.{Program}
use Rattle.txn_program.specs.declared.programs.Program.TheVariants.{Ycsb, Payment, NewOrder}
use Rattle.txn_program.specs.declared.programs.Load.{Load}
use Rattle.txn_program.specs.declared.programs.Workload.{Workload}
use Rattle.txn_program.specs.declared.programs.WorkKind.{WorkKind}
use Rattle.txn_program.specs.declared.programs.WorkKind.TheVariants as kinds
use Rattle.txn_program.specs.Transactions.{ycsb_key}

abbrev pub is_between : ℕ → ℕ → ℕ → Bool
is_between low high n = nat_le low n && nat_le n high

-- no two keys are one
abbrev pub are_distinct : List Key → Bool
are_distinct [] = true
are_distinct (key ∷ keys) = not (list_any (key_eq key) keys) && are_distinct keys

-- at most 1,000,000 rows, of which no two have one key
abbrev pub are_valid_rows : (Keyed → Bool) → List Keyed → Bool
are_valid_rows is_valid rows = nat_le (length rows) 1000000 && list_all is_valid rows && are_distinct (map (λ r. r.key) rows)

-- loads of YCSB

-- a text of a YCSB row: at most 100 bytes
abbrev pub is_text : List ℕ → Bool
is_text text = nat_le (length text) 100

abbrev pub is_text_cell : Cell → Bool
is_text_cell (Num n) = false
is_text_cell (Text text) = is_text text

-- a row of so many texts
abbrev pub is_row : ℕ → List Cell → Bool
is_row fields row = (length row == fields) && list_all is_text_cell row

abbrev pub is_ycsb_key : Key → Bool
is_ycsb_key key = (key.table == 0) && (key.b == 0) && (key.c == 0)

abbrev pub is_valid_row : ℕ → Keyed → Bool
is_valid_row fields r = is_ycsb_key r.key && is_row fields r.row

-- 1 to 10 fields, rows of so many, and no items
abbrev pub is_ycsb_load : Load → Bool
is_ycsb_load load = is_between 1 10 load.fields && are_valid_rows (is_valid_row load.fields) load.rows && (length load.items == 0)

-- loads of TPC-C

abbrev pub is_warehouse : ℕ → Bool
is_warehouse w = is_between 1 65535 w

abbrev pub is_district : ℕ → Bool
is_district d = is_between 1 100 d

abbrev pub is_customer : ℕ → Bool
is_customer c = is_between 1 100000 c

abbrev pub is_item : ℕ → Bool
is_item i = is_between 1 1000000 i

-- a key of one of the tables that are loaded
abbrev pub is_tpcc_key : Key → Bool
is_tpcc_key key =
    is_warehouse key.a
    && (if key.table == 1 then (key.b == 0) && (key.c == 0)
    else if key.table == 2 then is_district key.b && (key.c == 0)
    else if key.table == 3 then is_district key.b && is_customer key.c
    else if key.table == 4 then is_item key.b && (key.c == 0)
    else false)

abbrev pub is_tpcc_row : Keyed → Bool
is_tpcc_row r = is_tpcc_key r.key && is_loaded_row r.key r.row

-- prices are in cents
abbrev pub is_valid_item : Item → Bool
is_valid_item i = is_item i.number && int_le (pos 0) i.price && int_le i.price (pos 1000000)

-- no fields of its own, rows of its tables, and at most 100,000 items, of which no two have one number
abbrev pub is_tpcc_load : Load → Bool
is_tpcc_load load =
    (load.fields == 0) && are_valid_rows is_tpcc_row load.rows && nat_le (length load.items) 100000
    && list_all is_valid_item load.items && have_own_numbers load.items

abbrev pub is_load_of : WorkKind → Load → Bool
is_load_of kinds.Ycsb load = is_ycsb_load load
is_load_of kinds.Tpcc load = is_tpcc_load load

abbrev pub is_valid_load : Load → Bool
is_valid_load load = is_load_of load.kind load

-- transactions

abbrev pub is_valid_act : ℕ → YcsbAct → Bool
is_valid_act fields Read = true
is_valid_act fields (Update put) = nat_lt put.field fields && is_text put.text
is_valid_act fields (Put row) = is_row fields row

-- the key is loaded, and what is written fits the fields
abbrev pub is_valid_step : Load → YcsbStep → Bool
is_valid_step load step = has_key load.rows (ycsb_key step.key) && is_valid_act load.fields step.act

-- the rows of a district, with its warehouse, and of a customer are loaded

abbrev pub has_district : Load → ℕ → ℕ → Bool
has_district load w d = has_key load.rows (warehouse_key w) && has_key load.rows (district_key w d)

abbrev pub has_customer : Load → ℕ → ℕ → ℕ → Bool
has_customer load w d c = has_key load.rows (customer_key w d c)

-- 1 to 500,000 cents
abbrev pub is_valid_payment : Load → payments.Payment → Bool
is_valid_payment load p =
    int_le (pos 1) p.amount && int_le p.amount (pos 500000) && has_district load p.w p.d && has_customer load p.cw p.cd p.c

-- numbers in their ranges, whether they are loaded or not
abbrev pub is_line_of_numbers : Line → Bool
is_line_of_numbers line = is_item line.item && is_warehouse line.supplier && is_between 1 10 line.quantity

-- an item that is loaded has a stock at its supplier; one that is not is never supplied
abbrev pub is_valid_line : Load → Line → Bool
is_valid_line load line = is_line_of_numbers line && (not (is_loaded load.items line) || has_key load.rows (stock_of line))

abbrev pub is_valid_order : Load → orders.NewOrder → Bool
is_valid_order load o =
    is_between 1 15 (length o.lines) && list_all (is_valid_line load) o.lines && has_district load o.w o.d
    && has_customer load o.w o.d o.c

-- 1 to 16 steps, no two of one key; a payment; an order of 1 to 15 lines. The numbers of rows that are loaded are in range
abbrev pub is_valid_program : Load → Program → Bool
is_valid_program load (Ycsb steps) =
    nat_le 1 (length steps) && nat_le (length steps) 16
    && list_all (is_valid_step load) steps && are_distinct (map (λ step. ycsb_key step.key) steps)
is_valid_program load (Payment p) = is_valid_payment load p
is_valid_program load (NewOrder o) = is_valid_order load o

-- a valid load, and at most 10,000 valid transactions over it
abbrev pub is_valid : Workload → Bool
is_valid work = is_valid_load work.load && nat_le (length work.programs) 10000 && list_all (is_valid_program work.load) work.programs

-- the workload is one that some file gives
abbrev pub IsValid : Workload → Type 0
IsValid work = is_valid work ≡ true
