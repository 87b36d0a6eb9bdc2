use Rattle.std.proofs.Common.{◌≡◌, take}
use Rattle.tpcc_rules.proofs.items.ItemList.copy_of.Given as goal

-- the list has the items that were passed
abbrev pub invariant-loop-item : goal.invariant-loop-item
invariant-loop-item l = l.list ≡ take l.item-index l.items
