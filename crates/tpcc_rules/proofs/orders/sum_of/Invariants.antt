use Rattle.std.proofs.Common.{◌≡◌, ◌≤◌, ◌*◌, ◌+◌, drop}
use Rattle.std.specs.List.{fold}
use Rattle.tpcc_rules.specs.NewOrders.{amount_of, sum_of}
use Rattle.tpcc_rules.proofs.orders.sum_of.Given as goal

-- the sum so far and what is left make the sum
abbrev pub invariant-loop-line : goal.invariant-loop-line
invariant-loop-line l = record {
  whole : fold (λ sum line. sum + amount_of l.items line) l.sum (drop l.line-index l.lines) ≡ sum_of l.items l.lines;
  small : l.sum ≤ 255000000 * l.line-index;
}
