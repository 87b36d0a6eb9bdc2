use Rattle.std.proofs.Common.{◌≡◌, ◌∙◌, List, ap, sym, rules, to_z, of_z, w64}
use Rattle.tpcc_rules.specs.declared.programs.Item.{Item}
use Rattle.workload_text.specs.Grammar.{kind_of, fields_of_head}
use Rattle.workload_text.specs.SortedItems.{items_in}
use Rattle.workload_text.proofs.ItemEntries.{put_item-entries}
use Rattle.workload_text.proofs.reading.Reading.add.Goals as goal

pub returns-in_ok-insert-in-Sells-clause-work : goal.returns-in_ok-insert-in-Sells-clause-work
returns-in_ok-insert-in-Sells-clause-work c =
    let item = c.in-Sells.item in
    let self = c.args.self.now in
    let price : to_z w64 (of_z w64 item.price) ≡ item.price = search rules in
    let items = ap items_in (rw price at c.in_ok-insert-in-Sells.ensures.entries) ∙ sym (put_item-entries self.items.entries item.number (record { price = item.price; original = item.original })) in
    rw c.in-Sells.is (ap (λ (is : List Item). record { load = record { kind = kind_of self.head; fields = fields_of_head self.head; rows = self.rows; items = is }; programs = self.programs }) items)
