use Rattle.std.proofs.Common.{◌≡◌, map, take}
use Rattle.tpcc_rules.specs.ReadRows.{as_read}
use Rattle.tpcc_rules.proofs.read_rows.rows_lying.Given as goal

-- the list has the rows that were passed
abbrev pub invariant-loop-keyed : goal.invariant-loop-keyed
invariant-loop-keyed l = map as_read l.list.items ≡ take l.keyed-index l.rows
