use Rattle.std.proofs.Common.{ap, ◌∙◌}
use Rattle.row_store.proofs.Tables.{same_entries}
use Rattle.row_store.proofs.store.Store.reserve.Goals as goal

-- the entries may move, and each key keeps what it had
pub returns-clause-versions : goal.returns-clause-versions
returns-clause-versions c =
    same_entries c.self.inside.versions.entries c.reserve.new.self.entries c.reserve.ensures.entries.2 ∙ ap (λ s. s.versions) c.self.view_is
