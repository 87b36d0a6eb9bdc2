-- The text of a workload's file.
use Rattle.std.specs.Prelude.{ℕ, suc, ℤ, pos, negsuc, Bool, true, false, List, [], ◌∷◌, ◌++◌, map, ◌==◌, if◌then◌else◌, codes}
use Rattle.std.specs.Fmt.{decimal}
use Rattle.std.specs.List.{flat_map, list_any}
use Rattle.deneva_base.specs.declared.keys.Key.{Key}
use Rattle.deneva_base.specs.declared.rows.Cell.{Cell}
use Rattle.deneva_base.specs.declared.rows.Cell.TheVariants.{Num, Text}
use Rattle.deneva_base.specs.declared.rows.Keyed.{Keyed}
use Rattle.records.specs.Records.{Record, text_of}
use Rattle.tpcc_rules.specs.declared.programs.Item.{Item}
use Rattle.tpcc_rules.specs.declared.programs.Line.{Line}
use Rattle.tpcc_rules.specs.declared.programs.NewOrder as orders
use Rattle.tpcc_rules.specs.declared.programs.Payment as payments
use Rattle.txn_program.specs.declared.programs.YcsbAct.{YcsbAct}
use Rattle.txn_program.specs.declared.programs.YcsbAct.TheVariants.{Read, Update, Put}
use Rattle.txn_program.specs.declared.programs.YcsbStep.{YcsbStep}
use Rattle.txn_program.specs.declared.programs.Program.{Program}
use Rattle.txn_program.specs.declared.programs.Program.TheVariants.{Ycsb, Payment, NewOrder}
use Rattle.txn_program.specs.declared.programs.WorkKind.{WorkKind}
use Rattle.txn_program.specs.declared.programs.WorkKind.TheVariants as kinds
use Rattle.txn_program.specs.declared.programs.Workload.{Workload}
use Rattle.workload_text.specs.declared.heads.Format.{Format}
use Rattle.workload_text.specs.declared.heads.Format.TheVariants.{One, Two}
use Rattle.workload_text.specs.declared.tables.Table.{Table}
use Rattle.workload_text.specs.declared.tables.Table.TheVariants.{Warehouse, District, Customer, Stock}

-- a number with its sign
abbrev pub signed : ℤ → List ℕ
signed (pos n) = decimal n
signed (negsuc n) = 45 ∷ decimal (suc n)

abbrev pub cell_text : Cell → List ℕ
cell_text (Num n) = signed n
cell_text (Text text) = text

-- a row of YCSB

abbrev pub row_record : Keyed → Record
row_record r = codes "row" ∷ decimal r.key.a ∷ map cell_text r.row

-- a row of TPC-C: the word of its table, the numbers of its key, and its cells

abbrev pub table_word : Table → List ℕ
table_word Warehouse = codes "warehouse"
table_word District = codes "district"
table_word Customer = codes "customer"
table_word Stock = codes "stock"

abbrev pub key_fields : Table → Key → Record
key_fields Warehouse key = decimal key.a ∷ []
key_fields District key = decimal key.a ∷ decimal key.b ∷ []
key_fields Customer key = decimal key.a ∷ decimal key.b ∷ decimal key.c ∷ []
key_fields Stock key = decimal key.a ∷ decimal key.b ∷ []

-- the table of a key
abbrev pub table_at : Key → Table
table_at key = if key.table == 1 then Warehouse else if key.table == 2 then District else if key.table == 3 then Customer else Stock

abbrev pub table_record : Table → Keyed → Record
table_record table r = table_word table ∷ (key_fields table r.key ++ map cell_text r.row)

abbrev pub tpcc_row_record : Keyed → Record
tpcc_row_record r = table_record (table_at r.key) r

abbrev pub loaded_record : WorkKind → Keyed → Record
loaded_record kinds.Ycsb = row_record
loaded_record kinds.Tpcc = tpcc_row_record

-- an item, whose data say whether it is an original

abbrev pub item_data : Bool → List ℕ
item_data original = if original then codes "ORIGINAL" else []

abbrev pub item_record : Item → Record
item_record item = codes "item" ∷ decimal item.number ∷ signed item.price ∷ item_data item.original ∷ []

-- a transaction of YCSB: its steps

abbrev pub act_word : YcsbAct → List ℕ
act_word Read = codes "r"
act_word (Update put) = codes "u"
act_word (Put row) = codes "p"

abbrev pub act_fields : YcsbAct → Record
act_fields Read = []
act_fields (Update put) = decimal put.field ∷ put.text ∷ []
act_fields (Put row) = map cell_text row

abbrev pub step_fields : YcsbStep → Record
step_fields step = act_word step.act ∷ decimal step.key ∷ act_fields step.act

-- the customer of a payment is named by his number

abbrev pub payment_record : payments.Payment → Record
payment_record p = codes "payment" ∷ decimal p.w ∷ decimal p.d ∷ decimal p.cw ∷ decimal p.cd ∷ codes "id" ∷ decimal p.c ∷ signed p.amount ∷ []

abbrev pub line_fields : Line → Record
line_fields line = decimal line.item ∷ decimal line.supplier ∷ decimal line.quantity ∷ []

abbrev pub order_record : orders.NewOrder → Record
order_record o = codes "neworder" ∷ decimal o.w ∷ decimal o.d ∷ decimal o.c ∷ flat_map line_fields o.lines

abbrev pub program_record : Program → Record
program_record (Ycsb steps) = codes "txn" ∷ flat_map step_fields steps
program_record (Payment p) = payment_record p
program_record (NewOrder o) = order_record o

-- format 2 where a step replaces a whole row, which format 1 cannot say

abbrev pub replaces_row : YcsbAct → Bool
replaces_row Read = false
replaces_row (Update put) = false
replaces_row (Put row) = true

abbrev pub replaces_rows : Program → Bool
replaces_rows (Ycsb steps) = list_any (λ step. replaces_row step.act) steps
replaces_rows (Payment p) = false
replaces_rows (NewOrder o) = false

abbrev pub format_for : List Program → Format
format_for programs = if list_any replaces_rows programs then Two else One

abbrev pub format_word : Format → List ℕ
format_word One = codes "1"
format_word Two = codes "2"

-- the head
abbrev pub head_record : WorkKind → Format → ℕ → Record
head_record kinds.Ycsb format fields = codes "deneva" ∷ format_word format ∷ codes "ycsb" ∷ decimal fields ∷ []
head_record kinds.Tpcc format fields = codes "deneva" ∷ codes "1" ∷ codes "tpcc" ∷ []

abbrev pub end_records : List Record
end_records = (codes "end" ∷ []) ∷ []

-- the records of a workload: its head, its rows, its items and its transactions, each in their order, and the end

abbrev pub records_with : WorkKind → Workload → List Record
records_with kind work =
    head_record kind (format_for work.programs) work.load.fields
    ∷ (map (loaded_record kind) work.load.rows ++ (map item_record work.load.items ++ (map program_record work.programs ++ end_records)))

abbrev pub records_in : Workload → List Record
records_in work = records_with work.load.kind work

-- the bytes of a workload's file
abbrev pub file_of : Workload → List ℕ
file_of work = text_of (records_in work)
