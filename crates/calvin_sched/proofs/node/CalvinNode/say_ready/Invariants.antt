use Rattle.std.proofs.Common.{◌≡◌, take}
use Rattle.std.specs.List.{flat_map}
use Rattle.row_store.specs.Stores.{row_in}
use Rattle.server_core.specs.Roles.{setting_of}
use Rattle.calvin_sched.specs.Reading.{mails_after}
use Rattle.calvin_sched.proofs.node.CalvinNode.say_ready.Given as goal

-- the mails of those so far
abbrev pub invariant-loop-id : goal.invariant-loop-id
invariant-loop-id l = l.mails ≡ flat_map (mails_after (setting_of l.self.role) l.self.role.part (row_in l.self.store)) (take l.id-index l.id-items)
