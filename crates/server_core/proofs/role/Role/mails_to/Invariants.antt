use Rattle.std.proofs.Common.{◌≡◌, take}
use Rattle.server_core.specs.Coordinator.{to_all}
use Rattle.server_core.proofs.role.Role.mails_to.Given as goal

-- those so far
abbrev pub invariant-loop-node : goal.invariant-loop-node
invariant-loop-node l = l.mails ≡ to_all l.self.part l.msg (take l.node-index l.nodes)
