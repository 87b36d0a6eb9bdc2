use Rattle.std.proofs.Common.{◌≡◌, ◌≤◌, ◌^◌, drop, min}
use Rattle.server_core.specs.Coordinator.{least_hi}
use Rattle.server_core.proofs.ballots.least_hi.Given as goal

-- the least so far with those that are left
abbrev pub invariant-loop-ballot : goal.invariant-loop-ballot
invariant-loop-ballot l =
    record {
      least : min l.least (least_hi (drop l.ballot-index l.ballots)) ≡ least_hi l.ballots;
      bound : l.least ≤ 2 ^ 63;
    }
