use Rattle.std.proofs.Common.{◌≡◌, drop}
use Rattle.std.specs.List.{list_all}
use Rattle.deneva_base.specs.Modes.{writes}
use Rattle.calvin_sched.specs.Queues.{is_free}
use Rattle.calvin_sched.specs.Tables.{queue_at}
use Rattle.calvin_sched.proofs.node.CalvinNode.are_free.Given as goal

-- those that are left decide
abbrev pub invariant-loop-access : goal.invariant-loop-access
invariant-loop-access l = list_all (λ a. is_free (writes a.mode) l.id l.ended (queue_at l.self.locks a.key)) (drop l.access-index l.accesses) ≡ list_all (λ a. is_free (writes a.mode) l.id l.ended (queue_at l.self.locks a.key)) l.accesses
