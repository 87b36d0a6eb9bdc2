use Rattle.std.proofs.Common.{◌≡◌, drop}
use Rattle.deneva_base.specs.Rising.{rise_after}
use Rattle.txn_program.proofs.validity.rises_after.Given as goal

-- the rows so far rise, so those that are left settle the answer
abbrev pub invariant-loop-row : goal.invariant-loop-row
invariant-loop-row l = rise_after l.last (drop l.row-index l.rows) ≡ rise_after l.fn.key l.rows
