use Rattle.std.proofs.Common.{◌≡◌, drop}
use Rattle.lock_control.specs.Requests.{mode_in}
use Rattle.lock_control.proofs.requests.KeyLocks.mode_of.Given as goal

-- none of the requests so far is the attempt's
abbrev pub invariant-loop-request : goal.invariant-loop-request
invariant-loop-request l = mode_in l.who (drop l.request-index l.self.requests) ≡ mode_in l.who l.self.requests
