use Rattle.std.proofs.Common.{◌≡◌, drop}
use Rattle.lock_control.specs.Requests.{is_stopped}
use Rattle.lock_control.proofs.requests.KeyLocks.is_stopped.Given as goal

-- none of the requests so far stops it
abbrev pub invariant-loop-request : goal.invariant-loop-request
invariant-loop-request l = is_stopped l.asked (drop l.request-index l.self.requests) ≡ is_stopped l.asked l.self.requests
