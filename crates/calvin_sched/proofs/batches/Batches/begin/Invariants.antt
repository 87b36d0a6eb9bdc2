use Rattle.std.proofs.Common.{◌≡◌, replicate, None}
use Rattle.calvin_sched.proofs.batches.Batches.begin.Given as goal

-- none came so far
abbrev pub invariant-loop : goal.invariant-loop
invariant-loop l = l.came.items ≡ replicate l.counter None
