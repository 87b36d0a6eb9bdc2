use Rattle.std.proofs.Common.{◌≡◌, ◌∷◌}
use Rattle.std.specs.List.{flat_map}
use Rattle.row_store.specs.Stores.{row_in}
use Rattle.server_core.specs.Calvin.{finished_mail}
use Rattle.server_core.specs.Roles.{setting_of}
use Rattle.calvin_sched.specs.Reading.{row_after, mails_after}
use Rattle.calvin_sched.proofs.node.CalvinNode.last_mails.Given as goal

-- the mail to its home, and those of the numbers so far
abbrev pub invariant-loop-number : goal.invariant-loop-number
invariant-loop-number l = l.mails ≡ finished_mail (setting_of l.self.role) l.self.role.part l.fn.id ∷ flat_map (λ n. mails_after (setting_of l.self.role) l.self.role.part (row_after (row_in l.self.store) l.left) n.now.id) l.yielded
