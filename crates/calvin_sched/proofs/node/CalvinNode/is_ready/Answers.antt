use Rattle.std.proofs.Common.{◌≡◌, true, false, not, ap, ◌∙◌, None}
use Rattle.std.specs.List.{list_all}
use Rattle.deneva_base.specs.Modes.{writes}
use Rattle.deneva_base.specs.declared.keys.Access.{Access}
use Rattle.server_core.specs.CalvinScheduler.{participates}
use Rattle.server_core.specs.Roles.{setting_of}
use Rattle.calvin_sched.specs.Queues.{is_free}
use Rattle.calvin_sched.specs.Tables.{queue_at}
use Rattle.calvin_sched.proofs.FreedSteps.{takes}
use Rattle.calvin_sched.proofs.node.CalvinNode.is_ready.Goals as goal
use Rattle.calvin_sched.proofs.node.CalvinNode.is_ready.Goals.{then-not-is_empty, else-not-is_empty}

pub returns : goal.returns
returns c =
    let n = c.args.self.now in
    let part = takes (setting_of n.role) n.role.part c.args.id c.in_ok-accesses.accesses c.is_empty.result c.in_ok-accesses.ensures c.is_empty.ensures in
    elim c.if-not-is_empty.branch [
      | then-not-is_empty w ↦
          let t : participates (setting_of n.role) c.args.id n.role.part ≡ true = part ∙ ap not w.if-not-is_empty.true in
          rw t (w.result-is ∙ w.are_free.ensures ∙ ap (list_all (λ (a : Access). is_free (writes a.mode) c.args.id None (queue_at n.locks a.key))) (w.as_slice.ensures ∙ c.in_ok-accesses.ensures))
      | else-not-is_empty w ↦
          let t : participates (setting_of n.role) c.args.id n.role.part ≡ false = part ∙ ap not w.if-not-is_empty.false in
          rw t (w.result-is ∙ ap not w.if-not-is_empty.false)
    ]
