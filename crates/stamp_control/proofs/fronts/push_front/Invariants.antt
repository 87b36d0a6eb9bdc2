use Rattle.std.proofs.Common.{◌≡◌, ◌++◌, drop, map, filter}
use Rattle.stamp_control.specs.Fronts.{goes, waiter_for}
use Rattle.stamp_control.proofs.fronts.push_front.Given as goal

-- those so far, and those that are left
abbrev pub invariant-loop-request : goal.invariant-loop-request
invariant-loop-request l = l.front.items ++ map (waiter_for l.key) (filter (goes l.first) (drop l.request-index l.requests)) ≡ l.fn.front.items ++ map (waiter_for l.key) (filter (goes l.first) l.requests)
