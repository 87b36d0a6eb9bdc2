use Rattle.std.proofs.Common.{◌≡◌, ◌≤◌, length}
use Rattle.deneva_base.specs.Lists.{greatest_by}
use Rattle.deneva_base.specs.declared.config.Config.{Config}
use Rattle.txn_program.specs.Transactions.{numbers_below}
use Rattle.server_core.specs.GlobalOrder.{eights}
use Rattle.server_core.specs.Setting.{homes, setting}
use Rattle.calvin_seq.proofs.order.epochs.Given as goal

-- the greatest of the nodes so far
abbrev pub invariant-loop-part : goal.invariant-loop-part
invariant-loop-part l =
    record {
      greatest : (c : Config) → c.parts ≡ l.parts → l.most ≡ greatest_by (λ q. eights (length (homes (setting c l.work) q))) (numbers_below l.part);
      few : l.most ≤ 10000;
    }
