use Rattle.std.proofs.Common.{◌≡◌, drop, not}
use Rattle.std.specs.List.{find}
use Rattle.tpcc_rules.specs.NewOrders.{is_loaded}
use Rattle.tpcc_rules.proofs.orders.first_unused.Given as goal

-- the lines so far are loaded
abbrev pub invariant-loop-line : goal.invariant-loop-line
invariant-loop-line l = find (λ line. not (is_loaded l.items line)) (drop l.line-index l.lines) ≡ find (λ line. not (is_loaded l.items line)) l.lines
