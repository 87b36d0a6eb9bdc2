use Rattle.std.proofs.Common.{◌∙◌, true}
use Rattle.std.proofs.lemmas.Result.{IfOk-weaker}
use Rattle.protocol_rules.specs.Mvcc.{mvcc}
use Rattle.protocol_rules.proofs.Mvccs.{stamping}
use Rattle.protocol_rules.proofs.Stamping.{windows_law}
use Rattle.shelf.proofs.Versions.{rows_are}
use Rattle.chain_control.proofs.chains.ChainsControl.rows.Goals as goal

pub returns-clause-rows : goal.returns-clause-rows
returns-clause-rows g c =
    IfOk-weaker c.rows_in_order.result _ _ (λ rows e loaded h stands key. e key ∙ rows_are (mvcc g.row.KEEP loaded) stands.tracks.kept stands.obeys (λ k o. windows_law true loaded (mvcc g.row.KEEP loaded) (stamping g.row.KEEP loaded) k o) key) c.rows_in_order.ensures.rows
