use Rattle.deneva_base.proofs.Entries.{row_at-entries}
use Rattle.deneva_top.proofs.serial_model.row_of.Goals as goal

pub returns-in-Some : goal.returns-in-Some
returns-in-Some c = rw (row_at-entries c.args.rows.now.entries c.args.key, ← c.in-Some.ensures.value) c.share.ensures

pub returns-in-None : goal.returns-in-None
returns-in-None c = rw (row_at-entries c.args.rows.now.entries c.args.key, ← c.in-None.ensures.value) c.empty.ensures
