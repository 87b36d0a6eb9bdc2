use Rattle.std.proofs.Common.{List, ℕ, Result, Ok, Err, IfOk, subst}
use Rattle.txn_program.specs.Valid.{IsValid}
use Rattle.txn_program.specs.declared.programs.Workload.{Workload}
use Rattle.workload_text.specs.declared.faults.ReadError.{ReadError}
use Rattle.workload_text.specs.Files.{IsRising}
use Rattle.workload_text.specs.Grammar.{workload_of}
use Rattle.workload_text.specs.Reader.{Reads}
use Rattle.workload_text.proofs.ValidFiles.{reads_valid, reads_rising}
use Rattle.workload_text.proofs.lines.parse_workload.Goals as goal

valid_read : (bytes : List ℕ) (r : Result Workload ReadError) → Reads r (workload_of bytes) → IfOk r (λ work. IsValid work)
valid_read bytes (Ok work) reads = reads_valid bytes work reads
valid_read bytes (Err e) reads = tt

rising_read : (bytes : List ℕ) (r : Result Workload ReadError) → Reads r (workload_of bytes) → IfOk r (λ work. IsRising work.load.rows)
rising_read bytes (Ok work) reads = reads_rising bytes work reads
rising_read bytes (Err e) reads = tt

pub returns-clause-valid : goal.returns-clause-valid
returns-clause-valid c =
    valid_read c.args.bytes.now c.read_text.result (subst (λ (b : List ℕ). Reads c.read_text.result (workload_of b)) c.as_slice.ensures c.read_text.ensures)

pub returns-clause-order : goal.returns-clause-order
returns-clause-order c =
    rising_read c.args.bytes.now c.read_text.result (subst (λ (b : List ℕ). Reads c.read_text.result (workload_of b)) c.as_slice.ensures c.read_text.ensures)
