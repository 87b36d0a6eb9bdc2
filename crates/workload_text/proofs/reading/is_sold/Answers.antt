use Rattle.std.proofs.Common.{◌∙◌, sym}
use Rattle.workload_text.proofs.ItemEntries.{has_item-entries}
use Rattle.workload_text.proofs.reading.is_sold.Goals as goal

pub returns : goal.returns
returns c = c.contains_key.ensures ∙ sym (has_item-entries c.args.items.now.entries c.args.number)
