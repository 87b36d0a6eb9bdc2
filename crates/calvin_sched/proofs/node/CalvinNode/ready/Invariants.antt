use Rattle.std.proofs.Common.{◌≡◌, take, filter, ◌&&◌, None}
use Rattle.server_core.specs.CalvinScheduler.{participates}
use Rattle.server_core.specs.Roles.{setting_of}
use Rattle.calvin_sched.specs.Asked.{all_free}
use Rattle.calvin_sched.specs.Tables.{queue_at}
use Rattle.calvin_sched.proofs.node.CalvinNode.ready.Given as goal

-- those so far that take part and are free
abbrev pub invariant-loop-id : goal.invariant-loop-id
invariant-loop-id l = l.ready.items ≡ filter (λ x. participates (setting_of l.self.role) x l.self.role.part && all_free (setting_of l.self.role) l.self.role.part (queue_at l.self.locks) x None) (take l.id-index l.ids)
