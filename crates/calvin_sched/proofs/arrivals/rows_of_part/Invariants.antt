use Rattle.std.proofs.Common.{◌≡◌, drop}
use Rattle.calvin_sched.specs.Arrivals.{rows_of_part}
use Rattle.calvin_sched.proofs.arrivals.rows_of_part.Given as goal

-- none so far is of the partition
abbrev pub invariant-loop-arrival : goal.invariant-loop-arrival
invariant-loop-arrival l = rows_of_part (drop l.arrival-index l.arrived) l.part ≡ rows_of_part l.arrived l.part
