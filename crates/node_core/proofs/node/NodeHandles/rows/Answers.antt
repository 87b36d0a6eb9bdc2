use Rattle.std.proofs.Common.{◌∙◌}
use Rattle.std.proofs.lemmas.Result.{IfOk-weaker}
use Rattle.node_core.proofs.Handling.{rows_are}
use Rattle.node_core.proofs.node.NodeHandles.rows.Goals as goal

pub returns-clause-rows : goal.returns-clause-rows
returns-clause-rows g c =
    IfOk-weaker c.rows.result _ _
    (λ rows each ms stands key. each _ _ stands.participant.calls key ∙ rows_are g.C.Control.stands g.C.Control.rule c.args.self.now ms key stands)
    c.rows.ensures.rows
