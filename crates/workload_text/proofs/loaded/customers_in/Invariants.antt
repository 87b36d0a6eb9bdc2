use Rattle.std.proofs.Common.{◌≡◌, ◌++◌}
use Rattle.std.specs.List.{filter}
use Rattle.deneva_base.specs.Rows.{rows_in}
use Rattle.tpcc_rules.specs.Names.{is_customer}
use Rattle.workload_text.proofs.loaded.customers_in.Given as goal

-- the customers so far, and those that are left
abbrev pub invariant-loop-key : goal.invariant-loop-key
invariant-loop-key l = l.list ++ filter is_customer (rows_in l.key-iterator) ≡ filter is_customer (rows_in l.fn.rows.entries)
