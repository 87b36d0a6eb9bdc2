use Rattle.std.proofs.Common.{◌≡◌, drop}
use Rattle.deneva_base.specs.declared.keys.Key.{Key}
use Rattle.stamp_lines.specs.Tables.{all_granted, line_at}
use Rattle.stamp_lines.proofs.lines.Lines.wake_all.Given as goal

-- the requests that are left lead on to the end
abbrev pub invariant-loop-waiter : goal.invariant-loop-waiter
invariant-loop-waiter l = (other : Key) → all_granted (drop l.waiter-index l.waiters) other (line_at l.self other) ≡ all_granted l.waiters other (line_at l.fn.self other)
