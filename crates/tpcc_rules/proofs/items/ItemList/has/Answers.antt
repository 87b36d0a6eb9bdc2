use Rattle.std.proofs.Common.{◌∙◌}
use Rattle.tpcc_rules.proofs.StockKeys.{has_found}
use Rattle.tpcc_rules.proofs.items.ItemList.has.Goals as goal

pub returns : goal.returns
returns c = c.is_some.ensures ∙ has_found (λ i. i.now) c.find.result c.args.self.now c.args.number c.find.ensures
