use Rattle.std.proofs.Common.{◌≡◌, ◌++◌}
use Rattle.workload_text.specs.SortedItems.{items_in}
use Rattle.workload_text.proofs.reading.items_in_order.Given as goal

-- the items so far, and those that are left
abbrev pub invariant-loop-number : goal.invariant-loop-number
invariant-loop-number l = l.list ++ items_in l.number-iterator ≡ items_in l.fn.items.entries
