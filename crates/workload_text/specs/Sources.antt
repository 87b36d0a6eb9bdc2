-- What reading a source to its end gives.
use Rattle.std.specs.Prelude.{◌≡◌, ◌⊎◌, ℕ, ◌≤◌, ⊤, List, length, nat_lt, if◌then◌else◌, Option, Some, None, Result, Ok, Err}
use Rattle.deneva_io.specs.Streams.{Gives, IsOver, Rose, HasMore}
use Rattle.txn_program.specs.declared.programs.Workload.{Workload}
use Rattle.workload_text.specs.declared.faults.FaultKind.TheVariants.{TooLong}
use Rattle.workload_text.specs.declared.faults.InputFault.{InputFault}
use Rattle.workload_text.specs.declared.faults.ReadError.{ReadError}
use Rattle.workload_text.specs.declared.faults.ReadError.TheVariants.{NoMemory, Fault, ReadFault}
use Rattle.workload_text.specs.Grammar.{workload_of}

-- the whole input is longer than a file may be
abbrev pub too_long : InputFault
too_long = record { record_no = 0; field_no = 0; kind = TooLong }

-- the workload that the bytes of an input give, or their first fault: more than 67,108,864 bytes come before every other
abbrev pub input_of : List ℕ → Result Workload InputFault
input_of bytes = if nat_lt 67108864 (length bytes) then Err too_long else workload_of bytes

-- the bytes of the input, where the source told them, give this
abbrev pub InputIs : Option (List ℕ) → Result Workload InputFault → Type 0
InputIs None read = ⊤
InputIs (Some bytes) read = input_of bytes ≡ read

-- the source told bytes that give this workload
abbrev pub WorkIs : Option (List ℕ) → Workload → Type 0
WorkIs None work = ⊥
WorkIs (Some bytes) work = input_of bytes ≡ Ok work

-- the source told bytes of which this is the first fault
abbrev pub FaultIs : Option (List ℕ) → InputFault → Type 0
FaultIs None f = ⊥
FaultIs (Some bytes) f = input_of bytes ≡ Err f

-- nothing of the input is left, unless the fault is that it is too long
abbrev pub IsReadUnless : InputFault → Option (List ℕ) → Type 0
IsReadUnless f now = (f ≡ too_long) ⊎ IsOver now

-- each answer of reading at most so many bytes from a source that told these bytes and counted these faults, before and after
abbrev pub ReadsAll : ℕ → Option (List ℕ) → Option (List ℕ) → ℕ → ℕ → Result (List ℕ) ReadError → Type 0
ReadsAll most before now faults faults_now (Ok bytes) = Gives before now bytes × IsOver now × (length bytes ≤ most) × (faults_now ≡ faults)
ReadsAll most before now faults faults_now (Err NoMemory) = ⊤
ReadsAll most before now faults faults_now (Err (Fault f)) = (f ≡ too_long) × HasMore before most × (faults_now ≡ faults)
ReadsAll most before now faults faults_now (Err ReadFault) = Rose faults faults_now

-- each answer of reading a workload from a source
abbrev pub ReadsInput : Option (List ℕ) → Option (List ℕ) → ℕ → ℕ → Result Workload ReadError → Type 0
ReadsInput bytes now faults faults_now (Ok work) = InputIs bytes (Ok work) × IsOver now × (faults_now ≡ faults)
ReadsInput bytes now faults faults_now (Err NoMemory) = ⊤
ReadsInput bytes now faults faults_now (Err (Fault f)) = InputIs bytes (Err f) × IsReadUnless f now × (faults_now ≡ faults)
ReadsInput bytes now faults faults_now (Err ReadFault) = Rose faults faults_now
