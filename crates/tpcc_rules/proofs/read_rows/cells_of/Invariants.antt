use Rattle.std.proofs.Common.{◌≡◌, map, drop}
use Rattle.deneva_base.specs.Rows.{row_at}
use Rattle.tpcc_rules.specs.ReadRows.{as_read}
use Rattle.tpcc_rules.proofs.read_rows.cells_of.Given as goal

-- the row is in what is left
abbrev pub invariant-loop-read : goal.invariant-loop-read
invariant-loop-read l = row_at (map as_read (drop l.read-index l.rows)) l.key ≡ row_at (map as_read l.rows) l.key
