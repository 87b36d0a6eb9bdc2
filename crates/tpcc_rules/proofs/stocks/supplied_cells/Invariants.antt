use Rattle.std.proofs.Common.{◌≡◌, drop}
use Rattle.tpcc_rules.specs.NewOrders.{after_lines}
use Rattle.tpcc_rules.proofs.stocks.supplied_cells.Given as goal

-- what is left to do to the cells is what is left of the lines
abbrev pub invariant-loop-line : goal.invariant-loop-line
invariant-loop-line l = after_lines l.order.w (drop l.line-index l.order.lines) l.key l.cells.items ≡ after_lines l.order.w l.order.lines l.key l.fn.cells
