-- The laws are lemmas.
use Rattle.calvin_laws.proofs.order.TakenBatches.{ready_by_rule, rule_ready}
use Rattle.calvin_laws.proofs.runs.ready_is_the_rule.Goals as goal

pub returns : goal.returns
returns c = record {
  ready = λ s p ms x v h. ready_by_rule s v p ms x h;
  rule = λ s p ms x v r. rule_ready s v p ms x r;
}
