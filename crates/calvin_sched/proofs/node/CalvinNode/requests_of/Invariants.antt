use Rattle.std.proofs.Common.{◌≡◌, take}
use Rattle.server_core.specs.Roles.{setting_of}
use Rattle.calvin_sched.specs.Asked.{asked}
use Rattle.calvin_sched.proofs.node.CalvinNode.requests_of.Given as goal

-- the requests of those so far
abbrev pub invariant-loop-id : goal.invariant-loop-id
invariant-loop-id l = l.requests.items ≡ asked (setting_of l.self.role) l.self.role.part (take l.id-index l.ids)
