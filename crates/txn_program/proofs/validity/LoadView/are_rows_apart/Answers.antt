use Rattle.std.proofs.Common.{sym, ◌∙◌}
use Rattle.txn_program.proofs.Distinct.{distinct_from_rising}
use Rattle.txn_program.proofs.validity.LoadView.are_rows_apart.Goals as goal

-- rows whose keys strictly rise have keys of their own
pub returns-then-self : goal.returns-then-self
returns-then-self c =
    let view = c.args.self.now in
    c.if-self.true ∙ sym (distinct_from_rising view.load.now.rows (sym view.order ∙ c.if-self.true))
