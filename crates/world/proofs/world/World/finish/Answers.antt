use Rattle.std.proofs.Common.{List, ap, subst, ◌∙◌}
use Rattle.deneva_base.specs.Partitions.{partition_of}
use Rattle.server_core.specs.NodeRows.{rows_of_node}
use Rattle.server_core.specs.Runs.{heard}
use Rattle.world.specs.Gathered.{Gathered}
use Rattle.world.specs.Worlds.{Seen, seen, in_line}
use Rattle.world.proofs.Gathering.{world_distinct, world_rows}
use Rattle.world.proofs.world.World.finish.Goals as goal

pub in_key_order-requires : goal.in_key_order-requires
in_key_order-requires g c =
    let was = c.self.inside in
    let inv = c.self.invariant in
    let laws = g.met.S.Handles in
    let w = seen was.config was.work.now was.history.items (in_line was.flight was.held was.said.mails) in
    let gathered = subst (λ (l : List g.row.S.Denot). Gathered g.S.Handles.role g.S.Handles.stands l c.in_ok-gather.field-0) c.deref.ensures.value c.in_ok-gather.ensures in
    record { distinct = world_distinct g.S.Handles.role g.S.Handles.stands g.S.Handles.protocol laws.keeps_apart was.nodes.items w inv.0 inv.1 c.in_ok-gather.field-0 gathered }

pub returns-clause-rows : goal.returns-clause-rows
returns-clause-rows g c key =
    let was = c.self.inside in
    let inv = c.self.invariant in
    let laws = g.met.S.Handles in
    let w = seen was.config was.work.now was.history.items (in_line was.flight was.held was.said.mails) in
    let gathered = subst (λ (l : List g.row.S.Denot). Gathered g.S.Handles.role g.S.Handles.stands l c.in_ok-gather.field-0) c.deref.ensures.value c.in_ok-gather.ensures in
    c.in_ok-rows.ensures.rows key
    ∙ world_rows g.S.Handles.role g.S.Handles.stands g.S.Handles.protocol laws.keeps_apart was.nodes.items w inv.0 inv.1 c.in_ok-gather.field-0 gathered key
    ∙ ap (λ (x : Seen). rows_of_node x.config x.work (partition_of key x.config.parts) (heard (partition_of key x.config.parts) x.progress.entries) key) c.self.view_is
