use Rattle.std.proofs.Common.{◌≡◌, drop}
use Rattle.server_core.specs.Roles.{setting_of}
use Rattle.calvin_sched.specs.Freed.{put_numbers}
use Rattle.calvin_sched.specs.Tables.{queue_at}
use Rattle.calvin_sched.proofs.FreedSteps.{freed_from}
use Rattle.calvin_sched.proofs.node.CalvinNode.add_freed.Given as goal

-- with the numbers of those that the rest of the queue frees, the numbers are those of the whole queue
abbrev pub invariant-loop-request : goal.invariant-loop-request
invariant-loop-request l =
    put_numbers l.freed.keys (freed_from (setting_of l.self.role) l.self.role.part (queue_at l.self.locks) l.ended l.access (drop l.request-index l.request-items))
    ≡ put_numbers l.fn.freed.keys (freed_from (setting_of l.self.role) l.self.role.part (queue_at l.self.locks) l.ended l.access l.request-items)
