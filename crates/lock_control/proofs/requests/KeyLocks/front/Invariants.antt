use Rattle.std.proofs.Common.{◌≡◌, drop, []}
use Rattle.lock_control.specs.Requests.{front_of}
use Rattle.lock_control.proofs.requests.KeyLocks.front.Given as goal

-- those so far lead on to all
abbrev pub invariant-loop-request : goal.invariant-loop-request
invariant-loop-request l = front_of l.ended l.self.requests l.front.items (drop l.request-index l.self.requests) ≡ front_of l.ended l.self.requests [] l.self.requests
