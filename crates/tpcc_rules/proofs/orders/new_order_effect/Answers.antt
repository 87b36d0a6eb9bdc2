use Rattle.std.proofs.Common.{◌≡◌, ◌∙◌, ap, sym, map, not, option_map, All, None, Some}
use Rattle.std.specs.List.{find}
use Rattle.tpcc_rules.specs.NewOrders.{is_loaded, is_out_of_range, stocks, written_rows}
use Rattle.tpcc_rules.specs.ReadRows.{as_read}
use Rattle.tpcc_rules.proofs.OrderRows.{new_order_out}
use Rattle.tpcc_rules.proofs.StockKeys.{stocks_in_stock}
use Rattle.tpcc_rules.proofs.orders.new_order_effect.Goals as goal

pub number_and_writes-requires : goal.number_and_writes-requires
number_and_writes-requires c =
    let keys = c.deref.ensures.value ∙ c.in_ok-keys.ensures in
    rw keys (stocks_in_stock c.args.items.now c.as_slice-lines.result.now)

pub returns : goal.returns
returns c =
    let order = c.args.order.now in
    let rows = map as_read c.args.rows.now in
    let keys : c.deref.result.now ≡ stocks c.args.items.now order.lines = c.deref.ensures.value ∙ c.in_ok-keys.ensures ∙ ap (stocks c.args.items.now) c.as_slice-lines.ensures in
    let none : find (λ line. not (is_loaded c.args.items.now line)) order.lines ≡ None = rw c.as_slice-lines.ensures at (sym c.first_unused.ensures ∙ c.in_default.is) in
    let out : option_map (λ r. r.key) (find is_out_of_range (written_rows order rows c.deref.result.now)) ≡ Some c.in-Err.key = rw c.in-Err.is at c.in_ok-number.ensures in
    c.rolled_back-in-Err.ensures ∙ new_order_out c.args.items.now c.args.id order rows c.in-Err.key none (rw keys at out)
