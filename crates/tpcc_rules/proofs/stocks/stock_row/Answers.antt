use Rattle.std.proofs.Common.{◌≡◌, ◌∙◌, ap, true, map}
use Rattle.tpcc_rules.specs.NewOrders.{after_lines, is_past}
use Rattle.tpcc_rules.specs.ReadRows.{as_read}
use Rattle.tpcc_rules.proofs.StockRows.{past_unfit}
use Rattle.tpcc_rules.proofs.stocks.stock_row.Goals as goal

pub returns-in_default : goal.returns-in_default
returns-in_default c =
    let order = c.args.order.now in
    let past : is_past (after_lines order.w order.lines c.args.key c.cells_of.result.now) ≡ true = rw c.in_default.is at c.in_ok-cells.ensures in
    past_unfit c.args.key.table _ c.requires (rw c.cells_of.ensures at past)
