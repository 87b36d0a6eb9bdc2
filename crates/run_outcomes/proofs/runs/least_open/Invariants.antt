use Rattle.std.proofs.Common.{◌≤◌, reverse}
use Rattle.deneva_base.specs.Lists.{IsIn}
use Rattle.deneva_base.specs.declared.numbers.TxnId.{TxnId}
use Rattle.txn_program.specs.Serial.{all_ids}
use Rattle.server_core.specs.Outcome.{outcome}
use Rattle.run_outcomes.specs.Outcomes.{IsOver}
use Rattle.run_outcomes.proofs.runs.least_open.Given as goal

-- the transactions so far are decided or given up
abbrev pub invariant-loop-story : goal.invariant-loop-story
invariant-loop-story l = (x : TxnId) → IsIn x (all_ids l.role.work.now) → x.0 ≤ l.story-index → IsOver (outcome l.role.config l.role.work.now (reverse l.history)) x
