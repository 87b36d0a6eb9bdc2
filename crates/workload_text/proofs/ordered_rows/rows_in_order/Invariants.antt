use Rattle.std.proofs.Common.{◌≡◌, ◌++◌}
use Rattle.deneva_base.specs.Rows.{rows_in}
use Rattle.workload_text.proofs.ordered_rows.rows_in_order.Given as goal

-- the rows so far, and those that are left
abbrev pub invariant-loop-key : goal.invariant-loop-key
invariant-loop-key l = l.list ++ rows_in l.key-iterator ≡ rows_in l.fn.rows.entries
