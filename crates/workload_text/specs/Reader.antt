-- What a reader has read so far.
use Rattle.std.specs.Prelude.{◌≡◌, ⊤, ℕ, List, min, Result, Ok, Err}
use Rattle.records.specs.Records.{Record}
use Rattle.txn_program.specs.declared.programs.Workload.{Workload}
use Rattle.workload_text.specs.declared.faults.Flaw.{Flaw}
use Rattle.workload_text.specs.declared.faults.InputFault.{InputFault}
use Rattle.workload_text.specs.declared.faults.ReadError.{ReadError}
use Rattle.workload_text.specs.declared.faults.ReadError.TheVariants.{NoMemory, Fault, ReadFault}
use Rattle.workload_text.specs.declared.faults.RecordError.{RecordError}
use Rattle.workload_text.specs.declared.faults.RecordError.TheVariants as errors
use Rattle.workload_text.specs.declared.heads.Head.{Head}
use Rattle.workload_text.specs.declared.lines.FileEnd.{FileEnd}
use Rattle.workload_text.specs.declared.reading.Reading.{Reading}
use Rattle.workload_text.specs.declared.reading.Progress.{Progress}
use Rattle.workload_text.specs.declared.reading.Progress.TheVariants.{More, Ended}
use Rattle.workload_text.specs.declared.said.Said.{Said}
use Rattle.workload_text.specs.declared.said.Said.TheVariants.{Loads, Sells, Runs, Ends}
use Rattle.workload_text.specs.Gives.{Fails}
use Rattle.workload_text.specs.Fields.{fault_of}
use Rattle.workload_text.specs.Grammar.{Prefix, with_row, with_item, with_program, kind_of, fields_of_head}
use Rattle.workload_text.specs.SortedItems.{items_in}

-- the workload so far
abbrev pub work_of : Reading → Workload
work_of reading = record {
  load = record {
    kind = kind_of reading.head;
    fields = fields_of_head reading.head;
    rows = reading.rows;
    items = items_in reading.items.entries;
  };
  programs = reading.programs;
}

-- what a record does to the workload so far: it adds what the record says, or the file ends
abbrev pub Advances : Workload → Workload → Result Said Flaw → Progress → Type 0
Advances old new (Ok (Loads r)) More = new ≡ with_row old r
Advances old new (Ok (Sells i)) More = new ≡ with_item old i
Advances old new (Ok (Runs p)) More = new ≡ with_program old p
Advances old new (Ok Ends) Ended = new ≡ old
Advances old new (Ok (Loads r)) Ended = ⊥
Advances old new (Ok (Sells i)) Ended = ⊥
Advances old new (Ok (Runs p)) Ended = ⊥
Advances old new (Ok Ends) More = ⊥
Advances old new (Err f) progress = ⊥

-- what reading a record's line does, where the definition gives this of the record
abbrev pub LineGives : Workload → Workload → Result Progress RecordError → Result Said Flaw → Type 0
LineGives old new (Ok progress) said = Advances old new said progress
LineGives old new (Err e) said = Fails e said

-- the head of the definition or its fault in record 1, unless memory ran out
abbrev pub HeadGives : Result Head ReadError → Result Head Flaw → Type 0
HeadGives (Ok head) read = read ≡ Ok head
HeadGives (Err NoMemory) read = ⊤
HeadGives (Err (Fault f)) read = (e : Flaw) × (read ≡ Err e) × (f ≡ fault_of 1 e)
HeadGives (Err ReadFault) read = ⊥

-- the error of record n as one of the file
abbrev pub error_at : ℕ → RecordError → ReadError
error_at n errors.NoMemory = NoMemory
error_at n (errors.Flawed f) = Fault (fault_of n f)

-- the answer is the workload of the definition or its fault, unless memory ran out; no source is read
abbrev pub Reads : Result Workload ReadError → Result Workload InputFault → Type 0
Reads (Ok work) read = read ≡ Ok work
Reads (Err NoMemory) read = ⊤
Reads (Err (Fault f)) read = read ≡ Err f
Reads (Err ReadFault) read = ⊥

-- the end that the definition finds, with these records behind it, or its fault, unless memory ran out; no source is read
abbrev pub ReadsToEnd : Result FileEnd ReadError → List Record → Result Prefix InputFault → Type 0
ReadsToEnd (Ok ended) more read = read ≡ Ok (record { work = work_of ended.reading; last = ended.record_no; more = more })
ReadsToEnd (Err NoMemory) more read = ⊤
ReadsToEnd (Err (Fault f)) more read = read ≡ Err f
ReadsToEnd (Err ReadFault) more read = ⊥

-- the workload of the definition and how many records it takes, where the count stops at 4,294,967,295, or the definition's
-- fault, unless memory ran out; no source is read
abbrev pub ReadsPrefix : Result (Workload × ℕ) ReadError → Result Prefix InputFault → Type 0
ReadsPrefix (Ok (work, count)) read = (p : Prefix) × (read ≡ Ok p) × (p.work ≡ work) × (count ≡ min p.last 4294967295)
ReadsPrefix (Err NoMemory) read = ⊤
ReadsPrefix (Err (Fault f)) read = read ≡ Err f
ReadsPrefix (Err ReadFault) read = ⊥
