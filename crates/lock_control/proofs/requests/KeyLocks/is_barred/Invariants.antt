use Rattle.std.proofs.Common.{◌≡◌, drop}
use Rattle.lock_control.specs.Requests.{is_barred}
use Rattle.lock_control.proofs.requests.KeyLocks.is_barred.Given as goal

-- none so far bars it
abbrev pub invariant-loop-request : goal.invariant-loop-request
invariant-loop-request l = is_barred l.ended l.asked (drop l.request-index l.self.requests) ≡ is_barred l.ended l.asked l.self.requests
