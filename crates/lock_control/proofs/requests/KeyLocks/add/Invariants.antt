use Rattle.std.proofs.Common.{◌≡◌, ◌++◌, ◌≤◌, ◌-◌, take, drop, length}
use Rattle.lock_control.specs.Requests.{put_request}
use Rattle.lock_control.proofs.requests.KeyLocks.add.Given as goal

-- the request stands behind those that were passed
abbrev pub invariant-loop-place : goal.invariant-loop-place
invariant-loop-place l =
    record {
      requests : l.self-inside.requests.items ≡ l.fn.self.requests;
      accessed : l.self-inside.accessed ≡ l.fn.self.accessed;
      written : l.self-inside.written ≡ l.fn.self.written;
      bound : l.place ≤ length l.self-inside.requests.items;
      passed : put_request l.request l.self-inside.requests.items ≡ take l.place l.self-inside.requests.items ++ put_request l.request (drop l.place l.self-inside.requests.items);
    }

abbrev pub decreases-loop-place : goal.decreases-loop-place
decreases-loop-place l = length l.self-inside.requests.items - l.place
