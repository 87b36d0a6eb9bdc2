use Rattle.std.proofs.Common.{◌≡◌, ◌++◌, map, drop}
use Rattle.report.specs.ReportText.{cell_text}
use Rattle.report.proofs.rows.push_cells.Given as goal

-- the record so far, and the cells that are left
abbrev pub invariant-loop-cell : goal.invariant-loop-cell
invariant-loop-cell l = l.line ++ map cell_text (drop l.cell-index l.cells) ≡ l.fn.line ++ map cell_text l.cells
