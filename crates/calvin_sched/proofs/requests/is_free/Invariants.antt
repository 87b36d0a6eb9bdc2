use Rattle.std.proofs.Common.{◌≡◌, drop}
use Rattle.calvin_sched.specs.Queues.{is_free}
use Rattle.calvin_sched.proofs.requests.is_free.Given as goal

-- the requests that are left decide
abbrev pub invariant-loop-request : goal.invariant-loop-request
invariant-loop-request l = is_free l.writes l.id l.ended (drop l.request-index l.queue) ≡ is_free l.writes l.id l.ended l.queue
