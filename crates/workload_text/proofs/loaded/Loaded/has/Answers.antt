use Rattle.std.proofs.Common.{◌∙◌, sym, ap}
use Rattle.deneva_base.specs.Rows.{has_key}
use Rattle.deneva_base.proofs.Entries.{has_key-entries}
use Rattle.workload_text.proofs.loaded.Loaded.has.Goals as goal

pub returns : goal.returns
returns c = c.contains_key.ensures ∙ sym (has_key-entries c.self.inside.rows.entries c.args.key) ∙ ap (λ rows. has_key rows c.args.key) c.self.view_is
