-- The file of a valid workload gives it.
use Rattle.std.proofs.Common.{◌≡◌, ◌∙◌, ℕ, true, ◌&&◌, List, [], ◌∷◌, ◌++◌, map, length, Ok, refl, ap}
use Rattle.std.specs.Prelude.{nat_le}
use Rattle.std.specs.List.{list_all}
use Rattle.std.proofs.lemmas.Bool.{and_parts}
use Rattle.csv.specs.Reading.{strip_bom}
use Rattle.csv.specs.Writing.{escaped, fields_text, is_blank}
use Rattle.deneva_base.specs.declared.rows.Keyed.{Keyed}
use Rattle.deneva_base.proofs.PutRows.{in_key_order-rising}
use Rattle.records.specs.Records.{HaveFields, Record, records_of, text_of}
use Rattle.records.proofs.Back.{reads-back}
use Rattle.tpcc_rules.specs.declared.programs.Item.{Item}
use Rattle.txn_program.specs.Valid.{IsValid, is_load_of, is_valid_load, is_valid_program}
use Rattle.txn_program.specs.declared.programs.Program.{Program}
use Rattle.txn_program.specs.declared.programs.Program.TheVariants as programs
use Rattle.txn_program.specs.declared.programs.WorkKind.{WorkKind}
use Rattle.txn_program.specs.declared.programs.WorkKind.TheVariants as kinds
use Rattle.txn_program.specs.declared.programs.Workload.{Workload}
use Rattle.workload_text.specs.declared.heads.Format.{Format}
use Rattle.workload_text.specs.FileText.{loaded_record, item_record, program_record, format_for, head_record, end_records, records_with, records_in, file_of}
use Rattle.workload_text.specs.Files.{AreNumbers, IsRising, AreByNumber, in_order}
use Rattle.workload_text.specs.Grammar.{workload_from, workload_of}
use Rattle.workload_text.proofs.FileRecords.{parts_of, ycsb_back}
use Rattle.workload_text.proofs.SortedItems.{by_number-rising}
use Rattle.workload_text.proofs.TpccRecords.{tpcc_parts_of, tpcc_back}

-- each record has a field

runs_have : (ps : List Program) (more : List Record) → HaveFields more → HaveFields (map program_record ps ++ more)
runs_have [] more h = h
runs_have (programs.Ycsb steps ∷ ps) more h = runs_have ps more h
runs_have (programs.Payment p ∷ ps) more h = runs_have ps more h
runs_have (programs.NewOrder o ∷ ps) more h = runs_have ps more h

items_have : (items : List Item) (more : List Record) → HaveFields more → HaveFields (map item_record items ++ more)
items_have [] more h = h
items_have (i ∷ items) more h = items_have items more h

rows_have : (kind : WorkKind) (rows : List Keyed) (more : List Record) → HaveFields more → HaveFields (map (loaded_record kind) rows ++ more)
rows_have kind [] more h = h
rows_have kinds.Ycsb (r ∷ rows) more h = rows_have kinds.Ycsb rows more h
rows_have kinds.Tpcc (r ∷ rows) more h = rows_have kinds.Tpcc rows more h

head_has : (kind : WorkKind) (format : Format) (fields : ℕ) (more : List Record) → HaveFields more → HaveFields (head_record kind format fields ∷ more)
head_has kinds.Ycsb format fields more h = h
head_has kinds.Tpcc format fields more h = h

have_fields : (work : Workload) → HaveFields (records_in work)
have_fields work =
    head_has work.load.kind (format_for work.programs) work.load.fields _
    (rows_have work.load.kind work.load.rows _ (items_have work.load.items _ (runs_have work.programs end_records tt)))

-- the text begins with the first word of the head, so it has no byte order mark
unmarked : (kind : WorkKind) (format : Format) (fields : ℕ) (more : List Record)
    → strip_bom (text_of (head_record kind format fields ∷ more)) ≡ text_of (head_record kind format fields ∷ more)
unfolding strip_bom escaped fields_text is_blank
unmarked kinds.Ycsb format fields more = refl
unmarked kinds.Tpcc format fields more = refl

-- the records of the file are those of the workload
file_records_back : (work : Workload) → records_of (file_of work) ≡ records_in work
file_records_back work = reads-back (records_in work) (have_fields work) (unmarked work.load.kind (format_for work.programs) work.load.fields
    (map (loaded_record work.load.kind) work.load.rows ++ (map item_record work.load.items ++ (map program_record work.programs ++ end_records))))

of_kind : (kind : WorkKind) (work : Workload) → kind ≡ work.load.kind → is_load_of kind work.load ≡ true → nat_le (length work.programs) 10000 ≡ true
    → list_all (is_valid_program work.load) work.programs ≡ true → AreNumbers work → workload_from (records_with kind work) ≡ Ok (in_order work)
of_kind kinds.Ycsb work kind load turns programs short = ycsb_back work (parts_of work load turns programs) short kind
of_kind kinds.Tpcc work kind load turns programs short = tpcc_back work (tpcc_parts_of work load turns programs) (and_parts _ _ short).1 kind

-- the file gives the workload, with its rows and items in order
pub file_back : (work : Workload) → IsValid work → AreNumbers work → workload_of (file_of work) ≡ Ok (in_order work)
file_back work valid short =
    let v = and_parts (is_valid_load work.load && nat_le (length work.programs) 10000) (list_all (is_valid_program work.load) work.programs) valid in
    let w = and_parts (is_valid_load work.load) (nat_le (length work.programs) 10000) v.0 in
    ap workload_from (file_records_back work) ∙ of_kind work.load.kind work refl w.0 w.1 v.1 short

same_order : (work : Workload) → IsRising work.load.rows → AreByNumber work.load.items → in_order work ≡ work
same_order work rising by =
    λ i. record work { load = record work.load { rows = in_key_order-rising work.load.rows rising i; items = by_number-rising work.load.items by i } }

pub sorted_back : (work : Workload) → IsValid work → AreNumbers work → IsRising work.load.rows → AreByNumber work.load.items → workload_of (file_of work) ≡ Ok work
sorted_back work valid short rising by = file_back work valid short ∙ ap Ok (same_order work rising by)

pub some_file : (work : Workload) → IsValid work → AreNumbers work → (bytes : List ℕ) × (workload_of bytes ≡ Ok (in_order work))
some_file work valid short = (file_of work, file_back work valid short)
