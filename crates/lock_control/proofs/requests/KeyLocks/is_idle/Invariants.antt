use Rattle.std.proofs.Common.{◌≡◌, drop, []}
use Rattle.protocol_rules.specs.WaitDie.{none}
use Rattle.lock_control.specs.Requests.{front_of}
use Rattle.lock_control.proofs.requests.KeyLocks.is_idle.Given as goal

-- those that are left lead to the same
abbrev pub invariant-loop-request : goal.invariant-loop-request
invariant-loop-request l = none (front_of l.ended l.self.requests [] (drop l.request-index l.self.requests)) ≡ none (front_of l.ended l.self.requests [] l.self.requests)
