use Rattle.stamp_lines.specs.Tables.{requests_at}
use Rattle.stamp_control.specs.Pasts.{past_at}
use Rattle.stamp_control.proofs.Trims.{trims_step}
use Rattle.stamp_control.proofs.pasts.Pasts.trim_all.Goals as goal

pub loop-key-preserved : goal.loop-key-preserved
loop-key-preserved c =
    trims_step (requests_at c.args.accesses.now) (past_at c.args.self.now) (past_at c.loop-key.self) (past_at c.trim.new.self) _ c.requests.result.now c.requests.ensures c.loop-key.invariant c.trim.ensures.here c.trim.ensures.there
