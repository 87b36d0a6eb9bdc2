use Rattle.std.proofs.Common.{refl, sym, ◌∙◌, arith}
use Rattle.txn_program.proofs.Distinct.{not_apart, apart_after}
use Rattle.txn_program.proofs.validity.rows_are_apart.Goals as goal

pub returns-then-has_row : goal.returns-then-has_row
returns-then-has_row c =
    not_apart (λ r. r.key) c.args.rows.now c.loop-index.index c.index-rows-index.result (omega arith) c.index-rows-index.is _ refl c.loop-index.invariant
    (sym c.has_row.ensures ∙ c.if-has_row.true)

pub loop-index-preserved : goal.loop-index-preserved
loop-index-preserved c =
    apart_after (λ r. r.key) c.args.rows.now c.loop-index.index c.index-rows-index.result (omega arith) c.index-rows-index.is _ refl c.loop-index.invariant
    (sym c.has_row.ensures ∙ c.if-has_row.false)
