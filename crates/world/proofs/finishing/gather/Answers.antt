use Rattle.std.proofs.Common.{◌∷◌, [], ◌++◌, ◌+◌, take, ap, ◌∙◌, sym}
use Rattle.std.proofs.lemmas.List.{take_more}
use Rattle.world.proofs.Gathering.{gathered_more}
use Rattle.world.proofs.finishing.gather.Goals as goal

pub loop-node-preserved : goal.loop-node-preserved
loop-node-preserved g c =
    let nodes = c.args.nodes.now in
    let i = c.loop-node.node-index in
    let node = c.node-item.result in
    let rows = c.in_ok-rows.ensures in
    gathered_more g.S.Handles.role g.S.Handles.stands (take i nodes) (take (i + 1) nodes) node c.loop-node.all c.append.new.self c.in_ok-rows.rows
    (take_more nodes i node c.loop-node-test.true ∙ ap (λ (x : g.row.S.Denot). take i nodes ++ x ∷ []) (sym c.node-item.is))
    c.loop-node.invariant
    (record { order = rows.order; rows_are = rows.rows })
    c.in_ok-append.ensures.ok
