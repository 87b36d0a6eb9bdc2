use Rattle.std.proofs.Common.{◌≡◌, drop, None}
use Rattle.lock_control.specs.Requests.{least_bar}
use Rattle.lock_control.proofs.requests.KeyLocks.least_bar.Given as goal

-- the least so far with those that are left
abbrev pub invariant-loop-request : goal.invariant-loop-request
invariant-loop-request l = least_bar l.asked l.below l.least (drop l.request-index l.self.requests) ≡ least_bar l.asked l.below None l.self.requests
