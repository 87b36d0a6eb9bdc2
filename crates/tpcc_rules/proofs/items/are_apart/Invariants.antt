use Rattle.std.proofs.Common.{◌≡◌, length}
use Rattle.tpcc_rules.specs.Items.{have_own_numbers}
use Rattle.tpcc_rules.proofs.items.are_apart.Given as goal

-- no item so far has a later one's number, so those that are left settle the answer
abbrev pub invariant-loop-first : goal.invariant-loop-first
invariant-loop-first l = have_own_numbers l.rest ≡ have_own_numbers l.items

abbrev pub decreases-loop-first : goal.decreases-loop-first
decreases-loop-first l = length l.rest
