use Rattle.std.proofs.Common.{◌≡◌, ◌∙◌, ◌||◌, true, sym, ap, Some}
use Rattle.std.specs.List.{list_all}
use Rattle.deneva_base.specs.Modes.{writes}
use Rattle.deneva_base.specs.declared.keys.Access.{Access}
use Rattle.server_core.proofs.lists.ListTests.{or_left, or_right}
use Rattle.calvin_sched.specs.Queues.{is_free}
use Rattle.calvin_sched.specs.Tables.{queue_at}
use Rattle.calvin_sched.proofs.node.CalvinNode.is_freed.Goals as goal
use Rattle.calvin_sched.proofs.node.CalvinNode.is_freed.Goals.{then-request, else-request}

pub returns-in_ok-accesses : goal.returns-in_ok-accesses
returns-in_ok-accesses c =
    let r = c.args.request.now in
    let conflicts : (r.writes || writes c.args.access.mode) ≡ true =
    elim c.if-request.branch [
      | then-request w ↦ or_left r.writes (writes c.args.access.mode) w.if-request.true
      | else-request w ↦ or_right r.writes (writes c.args.access.mode) (sym w.is_writing.ensures ∙ sym w.value-is ∙ c.if-is_writing.true)
    ] in
    rw conflicts (c.are_free.ensures ∙ ap (list_all (λ (a : Access). is_free (writes a.mode) r.id (Some c.args.ended) (queue_at c.args.self.now.locks a.key))) (c.as_slice.ensures ∙ c.in_ok-accesses.ensures))
