use Rattle.std.proofs.Common.{◌≡◌}
use Rattle.deneva_base.specs.Rows.{rows_in, put_all}
use Rattle.deneva_top.proofs.serial_model.put_rows.Given as goal

-- the rows so far, with those that are left put into them
abbrev pub invariant-loop-write : goal.invariant-loop-write
invariant-loop-write l = put_all (rows_in l.rows.entries) l.write-iterator.rest.items ≡ put_all (rows_in l.fn.rows.entries) l.fn.writes
