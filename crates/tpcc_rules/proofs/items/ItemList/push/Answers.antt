use Rattle.std.proofs.Common.{◌≡◌, ◌∙◌, ◌∷◌, ◌++◌, [], sym, refl, true, rules}
use Rattle.tpcc_rules.specs.Items.{numbers_rise}
use Rattle.tpcc_rules.proofs.items.ItemList.push.Goals as goal
use Rattle.tpcc_rules.proofs.items.ItemList.push.Goals.{then-self, else-self}
use Rattle.tpcc_rules.proofs.ItemNumbers.{falls_on}

pub invariant_of-self-2 : goal.invariant_of-self-2
invariant_of-self-2 c =
    let items = c.self.inside.items in
    let pushed : c.push.new.self ≡ items ++ c.args.item ∷ [] = search rules in
    rw pushed (elim c.if-self.branch [
      | then-self w ↦
          let rose : numbers_rise items ≡ true = sym c.self.invariant ∙ w.if-self.true in
          let above = w.is_above_last-rising.ensures c.args.item refl in
          w.rising-is ∙ rw (w.as_slice.ensures, rose) at above
      | else-self w ↦ w.rising-is ∙ w.if-self.false ∙ falls_on items c.args.item (sym c.self.invariant ∙ w.if-self.false)
    ])
