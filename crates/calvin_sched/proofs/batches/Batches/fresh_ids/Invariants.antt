use Rattle.std.proofs.Common.{◌≡◌, ◌++◌, ◌-◌, length, drop, is_some, slice_set, Some}
use Rattle.std.specs.List.{flat_map}
use Rattle.server_core.specs.CalvinScheduler.{as_far}
use Rattle.calvin_sched.specs.Batches.{came, ids_in, newly}
use Rattle.calvin_sched.proofs.batches.Batches.fresh_ids.Given as goal

-- those so far and those that are left make all
abbrev pub invariant-loop-next : goal.invariant-loop-next
invariant-loop-next l = l.fresh.items ++ flat_map ids_in (as_far is_some (drop l.next (slice_set (came l.self) l.place (Some l.ids)))) ≡ newly l.place l.ids (came l.self)

abbrev pub decreases-loop-next : goal.decreases-loop-next
decreases-loop-next l = length (came l.self) - l.next
