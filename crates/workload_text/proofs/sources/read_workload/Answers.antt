use Rattle.std.proofs.Common.{◌≡◌, ◌∙◌, ℕ, ◌≤◌, List, ◌++◌, Result, Ok, Err, Option, Some, None, length, ap, append-nil, arith, inr}
use Rattle.std.specs.Prelude.{nat_lt, false}
use Rattle.std.proofs.lemmas.Bool.Decides.{nat_tests}
use Rattle.deneva_io.specs.Streams.{Gives, IsOver}
use Rattle.txn_program.specs.declared.programs.Workload.{Workload}
use Rattle.workload_text.specs.declared.faults.InputFault.{InputFault}
use Rattle.workload_text.specs.declared.faults.ReadError.{ReadError}
use Rattle.workload_text.specs.declared.faults.ReadError.TheVariants.{NoMemory, Fault, ReadFault}
use Rattle.workload_text.specs.Grammar.{workload_of}
use Rattle.workload_text.specs.Reader.{Reads}
use Rattle.workload_text.specs.Sources.{InputIs, ReadsInput}
use Rattle.workload_text.proofs.sources.read_workload.Goals as goal

not_long : (n : ℕ) → n ≤ 67108864 → nat_lt 67108864 n ≡ false
not_long n h = grind (arith, nat_tests)

-- a source that told its bytes told those that were read
told : (before now : Option (List ℕ)) (bytes : List ℕ) (read : Result Workload InputFault)
    → Gives before now bytes → IsOver now → length bytes ≤ 67108864 → workload_of bytes ≡ read → InputIs before read
told None now bytes read given over short is = tt
told (Some xs) None bytes read given over short is = absurd given
told (Some xs) (Some ys) bytes read given over short is =
    let same : xs ≡ bytes = given ∙ ap (λ (t : List ℕ). bytes ++ t) over ∙ append-nil bytes in
    rw (same, not_long (length bytes) short) is

parsed : (before now : Option (List ℕ)) (faults faults_now : ℕ) (bytes : List ℕ) (r : Result Workload ReadError)
    → Gives before now bytes → IsOver now → length bytes ≤ 67108864 → faults_now ≡ faults → Reads r (workload_of bytes) → ReadsInput before now faults faults_now r
parsed before now faults faults_now bytes (Ok work) given over short same reads = (told before now bytes (Ok work) given over short reads, over, same)
parsed before now faults faults_now bytes (Err NoMemory) given over short same reads = tt
parsed before now faults faults_now bytes (Err (Fault f)) given over short same reads = (told before now bytes (Err f) given over short reads, inr over, same)
parsed before now faults faults_now bytes (Err ReadFault) given over short same reads = absurd reads

pub returns-clause-answer : goal.returns-clause-answer
returns-clause-answer g c =
    let all = c.in_ok-bytes.ensures.answer in
    parsed _ _ _ _ c.in_ok-bytes.bytes c.parse_workload.result all.0 all.1 all.2 all.3 c.parse_workload.ensures.answer
