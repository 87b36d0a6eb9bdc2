use Rattle.std.proofs.Common.{ap, ◌∙◌}
use Rattle.std.specs.Prelude.{option_map}
use Rattle.std.proofs.lemmas.Result.{IfOk-weaker}
use Rattle.row_store.specs.Stores.{loaded}
use Rattle.calvin_sched.proofs.rows.store_of.Goals as goal

pub begin-requires : goal.begin-requires
begin-requires c = record { distinct = c.in_ok-loaded_rows.ensures.distinct }

pub returns : goal.returns
returns c =
    IfOk-weaker c.begin.result _ _
    (λ s holds key. holds key ∙ ap (λ o. option_map loaded o) (c.in_ok-loaded_rows.ensures.rows key))
    c.begin.ensures.loaded
