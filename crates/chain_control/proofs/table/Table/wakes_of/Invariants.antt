use Rattle.std.proofs.Common.{◌≡◌, take, map}
use Rattle.chain_control.specs.Changes.{wake_for}
use Rattle.chain_control.proofs.table.Table.wakes_of.Given as goal

-- those so far are made
abbrev pub invariant-loop-waiter : goal.invariant-loop-waiter
invariant-loop-waiter l = l.wakes ≡ map (wake_for l.self.lines l.number l.rows) (take l.waiter-index l.front)
