use Rattle.std.proofs.Common.{◌≡◌, map, take}
use Rattle.std.specs.List.{filter}
use Rattle.tpcc_rules.specs.Names.{is_customer}
use Rattle.tpcc_rules.proofs.names.customers.Given as goal

-- the list has the customers among the rows that were passed
abbrev pub invariant-loop-row : goal.invariant-loop-row
invariant-loop-row l = map (λ r. r.now) l.list.items ≡ filter is_customer (take l.row-index l.rows)
