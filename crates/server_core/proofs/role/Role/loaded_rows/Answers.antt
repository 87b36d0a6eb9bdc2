use Rattle.std.proofs.Common.{List, map, ap, ◌∙◌, sym, subst}
use Rattle.std.specs.List.{IsDistinct}
use Rattle.std.proofs.lemmas.Result.{IfOk-weaker}
use Rattle.deneva_base.specs.Keys.{key_eq}
use Rattle.deneva_base.specs.Lists.{IsIn}
use Rattle.deneva_base.specs.Rows.{row_of}
use Rattle.deneva_base.specs.declared.rows.Keyed.{Keyed}
use Rattle.server_core.specs.Coordinator.{at_part}
use Rattle.server_core.proofs.roles.Loads.{distinct_at, row_here, table_at}
use Rattle.server_core.proofs.role.Role.loaded_rows.Goals as goal

pub returns-clause-rows : goal.returns-clause-rows
returns-clause-rows c =
    let r = c.args.self.now in
    IfOk-weaker c.rows_at.result _ _
    (λ rows is key. ap (λ (l : List Keyed). row_of l key) (is ∙ ap (at_part r.config.parts r.part) c.as_slice.ensures) ∙ row_here r.config.parts r.part r.work.now.load.rows key)
    c.rows_at.ensures

pub returns-clause-distinct : goal.returns-clause-distinct
returns-clause-distinct c =
    let r = c.args.self.now in
    IfOk-weaker c.rows_at.result _ _
    (λ rows is. subst (λ (l : List Keyed). IsDistinct key_eq (map (λ (x : Keyed). x.key) l)) (sym (is ∙ ap (at_part r.config.parts r.part) c.as_slice.ensures)) (distinct_at r.work.now r.valid r.config.parts r.part))
    c.rows_at.ensures

pub returns-clause-tables : goal.returns-clause-tables
returns-clause-tables c =
    let r = c.args.self.now in
    IfOk-weaker c.rows_at.result _ _
    (λ rows is x i. table_at r.work.now r.valid r.config.parts r.part x (subst (λ (l : List Keyed). IsIn x l) (is ∙ ap (at_part r.config.parts r.part) c.as_slice.ensures) i))
    c.rows_at.ensures
