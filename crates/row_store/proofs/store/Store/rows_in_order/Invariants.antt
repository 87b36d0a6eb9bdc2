use Rattle.std.proofs.Common.{◌≡◌, ◌++◌}
use Rattle.row_store.proofs.InOrder.{rows_of}
use Rattle.row_store.proofs.store.Store.rows_in_order.Given as goal

-- the rows so far, and those that are left
abbrev pub invariant-loop-key : goal.invariant-loop-key
invariant-loop-key l = l.rows.items ++ rows_of l.key-iterator ≡ rows_of l.self-inside.versions.entries
