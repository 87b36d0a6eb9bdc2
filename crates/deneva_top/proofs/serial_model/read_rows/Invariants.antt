use Rattle.std.proofs.Common.{◌≡◌, ◌++◌, drop}
use Rattle.deneva_base.specs.Rows.{rows_in}
use Rattle.txn_program.specs.Serial.{reads_from}
use Rattle.deneva_top.proofs.serial_model.read_rows.Given as goal

-- what was read so far, and what is left to read
abbrev pub invariant-loop-access : goal.invariant-loop-access
invariant-loop-access l = l.reads ++ reads_from (rows_in l.rows.entries) (drop l.access-index l.accesses) ≡ reads_from (rows_in l.rows.entries) l.accesses
