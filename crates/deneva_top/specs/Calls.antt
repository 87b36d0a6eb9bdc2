-- What the top call answers and writes.
use Rattle.std.specs.Prelude.{◌≡◌, ◌≢◌, ℕ, ◌≤◌, List, [], ◌∷◌, codes, decimal, Option, Some, None, Ok, Err}
use Rattle.deneva_io.specs.Streams.{Rose, IsOver}
use Rattle.txn_program.specs.declared.programs.Workload.{Workload}
use Rattle.txn_program.specs.Serial.{serial, all_ids}
use Rattle.txn_program.specs.Valid.{IsValid}
use Rattle.deneva_top.specs.declared.words.Command.{Command}
use Rattle.deneva_top.specs.declared.words.Command.TheVariants.{Serial, Replay}
use Rattle.workload_text.specs.declared.faults.FaultKind.{FaultKind}
use Rattle.workload_text.specs.declared.faults.FaultKind.TheVariants.{Magic, Kind, Arity, NotANumber, OutOfRange, UnknownKey, Repeated, TooMany, NoEnd, Trailing, TooLong}
use Rattle.workload_text.specs.declared.faults.InputFault.{InputFault}
use Rattle.workload_text.specs.Sources.{InputIs, IsReadUnless}
use Rattle.deneva_top.specs.Words.{command_of}
use Rattle.records.specs.Records.{Record, line_of}
use Rattle.report.specs.ReportText.{report_text}
use Rattle.run_outcomes.specs.SerialOutcome.{serial_outcome}
use Rattle.replay.specs.Replayed.{Replays}
use Rattle.replay.specs.declared.runs.Ran.{Ran}

-- words ask for something
abbrev pub IsAsked : List (List ℕ) → Type 0
IsAsked words = (job : Command) × (command_of words ≡ Some job)

-- the last fields of a fault
abbrev pub kind_fields : FaultKind → Record
kind_fields Magic = codes "magic" ∷ []
kind_fields Kind = codes "kind" ∷ []
kind_fields Arity = codes "arity" ∷ []
kind_fields NotANumber = codes "notanumber" ∷ []
kind_fields OutOfRange = codes "outofrange" ∷ []
kind_fields UnknownKey = codes "unknownkey" ∷ []
kind_fields Repeated = codes "repeated" ∷ []
kind_fields (TooMany limit) = codes "toomany" ∷ decimal limit ∷ []
kind_fields NoEnd = codes "noend" ∷ []
kind_fields Trailing = codes "trailing" ∷ []
kind_fields TooLong = codes "toolong" ∷ []

abbrev pub fault_record : InputFault → Record
fault_record f = codes "fault" ∷ codes "input" ∷ decimal f.record_no ∷ decimal f.field_no ∷ kind_fields f.kind

-- the line that names the first fault of an input
abbrev pub fault_line : InputFault → List ℕ
fault_line f = line_of (fault_record f)

-- the report of the serial execution, in file order, of a workload
abbrev pub report_of : Workload → List ℕ
report_of work = report_text (serial_outcome (serial work (all_ids work)))

-- what is done on a workload, and the text that tells it: under `serial` its serial execution in file order, under `replay`
-- the run that the schedule picks
abbrev pub Reports : Command → Workload → Option Ran → List ℕ → Type 0
Reports Serial work run text = (run ≡ None) × (text ≡ report_of work)
Reports (Replay config schedule) work None text = ⊥
Reports (Replay config schedule) work (Some ran) text = Replays config work schedule ran × (text ≡ report_text ran.outcome)

-- what a call answers before it writes: its status, what was run, and its text, where the source told these bytes left and counted these faults, before and after
pub record Answers (words : List (List ℕ)) (bytes bytes_now : Option (List ℕ)) (faults faults_now : ℕ) (status : ℕ) (run : Option Ran) (text : List ℕ) : Type 0 where
  pub known : status ≤ 4
  pub report : status ≡ 0 → IsOver bytes_now × (faults_now ≡ faults) × ((job : Command) × (work : Workload) × (command_of words ≡ Some job) × InputIs bytes (Ok work) × IsValid work × Reports job work run text)
  pub no_run : status ≢ 0 → run ≡ None
  pub memory : status ≡ 1 → text ≡ codes "fault,memory\n"
  pub refused : status ≡ 2 → (command_of words ≡ None) × (text ≡ codes "fault,words\n")
  pub input : status ≡ 3 → IsAsked words × ((f : InputFault) × InputIs bytes (Err f) × IsReadUnless f bytes_now × (faults_now ≡ faults) × (text ≡ fault_line f))
  pub read : status ≡ 4 → IsAsked words × Rose faults faults_now × (text ≡ codes "fault,read\n")
