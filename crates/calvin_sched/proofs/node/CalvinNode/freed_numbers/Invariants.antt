use Rattle.std.proofs.Common.{◌≡◌, [], take}
use Rattle.server_core.specs.Roles.{setting_of}
use Rattle.calvin_sched.specs.Freed.{freed_by, put_numbers}
use Rattle.calvin_sched.specs.Tables.{queue_at}
use Rattle.calvin_sched.proofs.node.CalvinNode.freed_numbers.Given as goal

-- the numbers of those that become ready at the accesses so far
abbrev pub invariant-loop-access : goal.invariant-loop-access
invariant-loop-access l = l.freed.keys ≡ put_numbers [] (freed_by (setting_of l.self.role) l.self.role.part (queue_at l.self.locks) l.ended (take l.access-index l.accesses))
