use Rattle.std.proofs.Common.{◌≡◌, drop}
use Rattle.deneva_base.specs.declared.keys.Key.{Key}
use Rattle.key_table.specs.Keys.{same_key}
use Rattle.key_table.specs.Tables.{changed}
use Rattle.chain_control.specs.Tables.{waiter_key, wakes_at, chain_at}
use Rattle.chain_control.proofs.lines.Lines.wake_all.Given as goal

-- those that are left lead on to the end
abbrev pub invariant-loop-waiter : goal.invariant-loop-waiter
invariant-loop-waiter l = (other : Key) → changed same_key waiter_key wakes_at (drop l.waiter-index l.waiters) other (chain_at l.self other) ≡ changed same_key waiter_key wakes_at l.waiters other (chain_at l.fn.self other)
