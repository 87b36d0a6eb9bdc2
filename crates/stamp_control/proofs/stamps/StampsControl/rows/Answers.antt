use Rattle.std.proofs.Common.{◌∙◌, ap, false}
use Rattle.std.proofs.lemmas.Result.{IfOk-weaker}
use Rattle.protocol_rules.specs.Timestamp.{timestamp}
use Rattle.protocol_rules.proofs.Stamping.{windows_law}
use Rattle.protocol_rules.proofs.Timestamps.{stamping}
use Rattle.row_store.specs.Stores.{row_in}
use Rattle.shelf.proofs.Versions.{rows_are}
use Rattle.stamp_control.proofs.stamps.StampsControl.rows.Goals as goal

pub returns-clause-rows : goal.returns-clause-rows
returns-clause-rows c =
    IfOk-weaker c.rows_in_order.result _ _
    (λ rows e loaded h stands key. e key ∙ ap (λ x. row_in x.store key) c.shelf.ensures ∙ rows_are (timestamp loaded) stands.tracks.accesses.kept stands.obeys (windows_law false loaded (timestamp loaded) (stamping loaded)) key) c.rows_in_order.ensures.rows
