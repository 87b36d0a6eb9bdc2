use Rattle.std.proofs.Common.{◌≡◌, drop}
use Rattle.deneva_base.specs.Rows.{row_at, row_of}
use Rattle.tpcc_rules.proofs.read_rows.row_among.Given as goal

-- the row is in what is left
abbrev pub invariant-loop-keyed : goal.invariant-loop-keyed
invariant-loop-keyed l = (row_of (drop l.keyed-index l.rows) l.key ≡ row_of l.rows l.key) × (row_at (drop l.keyed-index l.rows) l.key ≡ row_at l.rows l.key)
