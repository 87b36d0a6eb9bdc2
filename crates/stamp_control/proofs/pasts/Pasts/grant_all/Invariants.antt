use Rattle.std.proofs.Common.{◌≡◌, drop}
use Rattle.deneva_base.specs.declared.keys.Key.{Key}
use Rattle.stamp_control.specs.Pasts.{all_granted_at, past_at}
use Rattle.stamp_control.proofs.pasts.Pasts.grant_all.Given as goal

-- the accesses that are left lead on to the end
abbrev pub invariant-loop-waiter : goal.invariant-loop-waiter
invariant-loop-waiter l = (key : Key) → all_granted_at (drop l.waiter-index l.waiters) key (past_at l.self key) ≡ all_granted_at l.waiters key (past_at l.fn.self key)
