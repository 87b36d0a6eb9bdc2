-- What a row and a transaction say once their fields are read.
use Rattle.std.specs.Prelude.{ℕ, List, length, if◌then◌else◌, nat_le, Result, Ok, Err}
use Rattle.deneva_base.specs.Rows.{has_key}
use Rattle.deneva_base.specs.declared.keys.Key.{Key}
use Rattle.deneva_base.specs.declared.rows.Cell.{Cell}
use Rattle.txn_program.specs.declared.programs.Program.{Program}
use Rattle.txn_program.specs.declared.programs.Workload.{Workload}
use Rattle.workload_text.specs.Fields.{flaw}
use Rattle.workload_text.specs.declared.faults.FaultKind.TheVariants.{Repeated, TooMany}
use Rattle.workload_text.specs.declared.faults.Flaw.{Flaw}
use Rattle.workload_text.specs.declared.said.Said.{Said}
use Rattle.workload_text.specs.declared.said.Said.TheVariants.{Loads, Runs}

-- a row: no key twice, where n is the field of the key's last number, and at most 1,000,000 rows
abbrev pub row_of : Workload → ℕ → Key → List Cell → Result Said Flaw
row_of work n key cells =
    if has_key work.load.rows key then Err (flaw n Repeated)
    else if nat_le 1000000 (length work.load.rows) then Err (flaw 0 (TooMany 1000000))
    else Ok (Loads (record { key = key; row = cells }))

-- at most 10,000 transactions
abbrev pub run_of : Workload → Program → Result Said Flaw
run_of work p = if nat_le 10000 (length work.programs) then Err (flaw 0 (TooMany 10000)) else Ok (Runs p)
