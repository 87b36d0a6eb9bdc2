use Rattle.std.proofs.Common.{◌≡◌, ◌++◌, ◌≤◌, ◌-◌, take, drop, length}
use Rattle.chain_control.specs.Requests.{put_request}
use Rattle.chain_control.proofs.requests.place_of.Given as goal

-- the request stands behind those that were passed
abbrev pub invariant-loop-place : goal.invariant-loop-place
invariant-loop-place l =
    record {
      bound : l.place ≤ length l.requests;
      passed : put_request l.request l.requests ≡ take l.place l.requests ++ put_request l.request (drop l.place l.requests);
    }

abbrev pub decreases-loop-place : goal.decreases-loop-place
decreases-loop-place l = length l.requests - l.place
