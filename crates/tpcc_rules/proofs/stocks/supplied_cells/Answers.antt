use Rattle.std.proofs.Common.{◌≡◌, ◌∙◌, ap, sym, arith, drop, get_or, true, false, ◌+◌}
use Rattle.tpcc_rules.specs.NewOrders.{after_lines, is_past}
use Rattle.tpcc_rules.proofs.StockRows.{past_after, after_own, after_other}
use Rattle.tpcc_rules.proofs.stocks.supplied_cells.Goals as goal
use Rattle.tpcc_rules.proofs.stocks.supplied_cells.Goals.{else-takes_from-via-then-takes_from+else-not-supply, else-takes_from-via-else-takes_from}

pub returns-then-not-supply : goal.returns-then-not-supply
returns-then-not-supply c =
    let order = c.args.order.now in
    let own = sym c.takes_from.ensures ∙ c.if-takes_from.true in
    let i = c.loop-line.line-index in
    let lines = ap (λ ls. after_lines order.w (drop i ls) c.args.key c.loop-line.cells.items) c.as_slice-line-items.ensures in
    let rest = after_own order.w c.as_slice-line-items.result.now c.args.key c.loop-line.cells.items i _ (omega arith) own in
    ap is_past (sym c.loop-line.invariant ∙ sym lines ∙ rest)
    ∙ past_after order.w (drop (i + 1) c.as_slice-line-items.result.now) c.args.key _ (c.supply.ensures.past c.if-not-supply.true)

pub loop-line-preserved : goal.loop-line-preserved
loop-line-preserved c =
    let order = c.args.order.now in
    let i = c.loop-line.line-index in
    let slice = c.as_slice-line-items.result.now in
    let lines = ap (λ ls. after_lines order.w (drop i ls) c.args.key c.loop-line.cells.items) c.as_slice-line-items.ensures in
    let later = ap (λ ls. after_lines order.w (drop (i + 1) ls) c.args.key c.else-takes_from.cells.items) (sym c.as_slice-line-items.ensures) in
    later
    ∙ (elim c.else-takes_from.branch [
      | else-takes_from-via-then-takes_from+else-not-supply w ↦
          ap (λ v. after_lines order.w (drop (i + 1) slice) c.args.key v.items) w.cells-is
          ∙ ap (after_lines order.w (drop (i + 1) slice) c.args.key) (w.supply.ensures.ok w.if-not-supply.false)
          ∙ sym (after_own order.w slice c.args.key c.loop-line.cells.items i _ (omega arith) (sym c.takes_from.ensures ∙ w.if-takes_from.true))
      | else-takes_from-via-else-takes_from w ↦
          ap (λ v. after_lines order.w (drop (i + 1) slice) c.args.key v.items) w.cells-is
          ∙ sym (after_other order.w slice c.args.key c.loop-line.cells.items i _ (omega arith) (sym c.takes_from.ensures ∙ w.if-takes_from.false))
    ])
    ∙ lines ∙ c.loop-line.invariant
