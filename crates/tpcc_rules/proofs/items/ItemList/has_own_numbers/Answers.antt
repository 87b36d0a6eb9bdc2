use Rattle.std.proofs.Common.{◌∙◌, sym}
use Rattle.tpcc_rules.proofs.ItemNumbers.{own_from_rising}
use Rattle.tpcc_rules.proofs.items.ItemList.has_own_numbers.Goals as goal

pub returns-then-self : goal.returns-then-self
returns-then-self c =
    c.if-self.true ∙ sym (rw (← c.self.view_is) (own_from_rising c.self.inside.items (sym c.self.invariant ∙ c.if-self.true)))
