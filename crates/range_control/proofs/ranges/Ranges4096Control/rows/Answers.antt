use Rattle.std.proofs.Common.{◌∙◌}
use Rattle.std.proofs.lemmas.Result.{IfOk-weaker}
use Rattle.protocol_rules.specs.Maat.{maat}
use Rattle.protocol_rules.proofs.Maats.{ranging}
use Rattle.protocol_rules.proofs.Rangeds.{windows_law}
use Rattle.shelf.proofs.Versions.{rows_are}
use Rattle.range_control.proofs.ranges.Ranges4096Control.rows.Goals as goal

pub returns-clause-rows : goal.returns-clause-rows
returns-clause-rows c =
    IfOk-weaker c.rows_in_order.result _ _
    (λ rows e loaded h stands key. e key ∙ rows_are (maat 4096 loaded) stands.tracks.kept stands.obeys (λ k o. windows_law loaded (maat 4096 loaded) (ranging 4096 loaded) k o) key) c.rows_in_order.ensures.rows
