use Rattle.std.proofs.Common.{◌≡◌, ◌++◌, ◌+◌, drop, map}
use Rattle.tpcc_rules.specs.NewOrders.{line_rows, lines_of}
use Rattle.tpcc_rules.specs.ReadRows.{as_read}
use Rattle.tpcc_rules.proofs.orders.line_rows.Given as goal

-- the rows so far and those of the lines that are left are all
abbrev pub invariant-loop-index : goal.invariant-loop-index
invariant-loop-index l =
    l.list ++ line_rows l.items (map as_read l.rows) l.order l.number (l.index + 1) (drop l.index l.lines)
    ≡ line_rows l.items (map as_read l.rows) l.order l.number 1 (lines_of l.order)
