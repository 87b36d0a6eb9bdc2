use Rattle.std.proofs.Common.{◌≡◌, ◌++◌, ◌≤◌, ◌-◌, take, drop, length}
use Rattle.calvin_sched.specs.Queues.{without_first}
use Rattle.calvin_sched.proofs.requests.Queue.leave.Given as goal

-- the request is not among those that were passed
abbrev pub invariant-loop-place : goal.invariant-loop-place
invariant-loop-place l =
    record {
      bound : l.place ≤ length l.self.requests.items;
      passed : without_first l.id l.self.requests.items ≡ take l.place l.self.requests.items ++ without_first l.id (drop l.place l.self.requests.items);
    }

abbrev pub decreases-loop-place : goal.decreases-loop-place
decreases-loop-place l = length l.self.requests.items - l.place
