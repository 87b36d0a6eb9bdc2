-- The workload of the tests is valid.
use Rattle.std.proofs.Common.{◌≡◌, refl, subst, sym}
use Rattle.txn_program.specs.Valid.{IsValid}
use Rattle.txn_program.specs.declared.programs.Workload.{Workload}
use Rattle.calvin_seq.specs.Trials.{ten_reads}

pub ten_valid : (work : Workload) → work ≡ ten_reads → IsValid work
ten_valid work is = subst IsValid (sym is) refl
