use Rattle.std.proofs.Common.{◌≡◌, drop, map, take}
use Rattle.std.specs.List.{find}
use Rattle.tpcc_rules.specs.NewOrders.{is_out_of_range, stock_after}
use Rattle.tpcc_rules.specs.ReadRows.{as_read}
use Rattle.tpcc_rules.proofs.stocks.stock_rows.Given as goal

-- the rows are those of the keys that were passed, and each is well formed
abbrev pub invariant-loop-key : goal.invariant-loop-key
invariant-loop-key l =
    let after = stock_after l.order (map as_read l.rows) in record {
      made : l.list ≡ map after (take l.key-index l.keys);
      fine : find is_out_of_range (map after (drop l.key-index l.keys)) ≡ find is_out_of_range (map after l.keys);
    }
