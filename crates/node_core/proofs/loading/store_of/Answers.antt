use Rattle.std.proofs.lemmas.Result.{IfOk-weaker}
use Rattle.server_core.specs.Roles.{setting_of}
use Rattle.server_core.specs.Setting.{loaded_at}
use Rattle.node_core.proofs.Loads.{loaded_store, rows_loaded}
use Rattle.node_core.proofs.loading.store_of.Goals as goal

pub begin-requires : goal.begin-requires
begin-requires c = record { distinct = c.in_ok-loaded_rows.ensures.distinct }

pub returns-clause-loaded : goal.returns-clause-loaded
returns-clause-loaded c = IfOk-weaker c.begin.result _ _ (λ s holds. loaded_store c.in_ok-loaded_rows.field-0 s holds c.in_ok-loaded_rows.ensures.tables) c.begin.ensures.loaded

pub returns-clause-rows : goal.returns-clause-rows
returns-clause-rows c =
    let r = c.args.role.now in
    IfOk-weaker c.begin.result _ _ (λ s holds. rows_loaded c.in_ok-loaded_rows.field-0 s holds (loaded_at (setting_of r) r.part) c.in_ok-loaded_rows.ensures.rows) c.begin.ensures.loaded
