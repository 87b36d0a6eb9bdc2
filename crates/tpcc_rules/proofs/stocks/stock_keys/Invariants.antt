use Rattle.std.proofs.Common.{◌≡◌, take}
use Rattle.tpcc_rules.specs.NewOrders.{stocks}
use Rattle.tpcc_rules.proofs.stocks.stock_keys.Given as goal

-- the keys are those of the lines that were passed
abbrev pub invariant-loop-line : goal.invariant-loop-line
invariant-loop-line l = l.keys.items ≡ stocks l.items (take l.line-index l.lines)
