use Rattle.std.proofs.Common.{sym, ◌∙◌, arith}
use Rattle.txn_program.specs.Transactions.{ycsb_key}
use Rattle.txn_program.proofs.Distinct.{not_apart, apart_after}
use Rattle.txn_program.proofs.validity.steps_are_apart.Goals as goal

pub returns-then-has_step : goal.returns-then-has_step
returns-then-has_step c =
    not_apart (λ step. ycsb_key step.key) c.args.steps.now c.loop-index.index c.index-steps-index.result (omega arith) c.index-steps-index.is _ c.ycsb_key_of.ensures c.loop-index.invariant
    (sym c.has_step.ensures ∙ c.if-has_step.true)

pub loop-index-preserved : goal.loop-index-preserved
loop-index-preserved c =
    apart_after (λ step. ycsb_key step.key) c.args.steps.now c.loop-index.index c.index-steps-index.result (omega arith) c.index-steps-index.is _ c.ycsb_key_of.ensures c.loop-index.invariant
    (sym c.has_step.ensures ∙ c.if-has_step.false)
