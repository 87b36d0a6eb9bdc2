use Rattle.std.proofs.Common.{◌≡◌, ◌++◌, take, drop, map}
use Rattle.lock_control.specs.Requests.{grants_to}
use Rattle.lock_control.proofs.requests.KeyLocks.wake.Given as goal

-- those so far are looked at
abbrev pub invariant-loop-place : goal.invariant-loop-place
invariant-loop-place l =
    record {
      requests : l.self-inside.requests.items ≡ map (grants_to l.who) (take l.place l.fn.self.requests) ++ drop l.place l.fn.self.requests;
      accessed : l.self-inside.accessed ≡ l.fn.self.accessed;
      written : l.self-inside.written ≡ l.fn.self.written;
    }
