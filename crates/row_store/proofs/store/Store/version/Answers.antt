use Rattle.std.proofs.Common.{sym, ap, ◌∙◌}
use Rattle.row_store.specs.Stores.{version_at}
use Rattle.row_store.proofs.Tables.{get_key}
use Rattle.row_store.proofs.store.Store.version.Goals as goal

pub returns : goal.returns
returns c = c.get.ensures.value ∙ sym (get_key c.self.inside.versions.entries c.args.key) ∙ ap (λ s. version_at s c.args.key) c.self.view_is
