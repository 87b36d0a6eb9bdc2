use Rattle.std.proofs.Common.{rules}
use Rattle.control_trials.specs.Trials.{rows_at}
use Rattle.control_trials.proofs.Logs.{both_held, with_rows}
use Rattle.control_trials.proofs.log.Log.may_prepare.Goals as goal

pub returns-clause-may : goal.returns-clause-may
returns-clause-may c t h appends f =
    let who = c.args.who in
    let ws = c.args.writes in
    with_rows h who c.args.n ws appends (c.may_close.ensures.may (search rules) h f)
    (both_held h who (rows_at 0 0 ws.first) (rows_at 0 1 ws.second) (c.may_write.ensures (search rules) h f) (c.may_write-2.ensures t h f))
