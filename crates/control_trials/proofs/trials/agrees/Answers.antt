use Rattle.std.proofs.Common.{[]}
use Rattle.row_store.specs.Stores.{row_in}
use Rattle.control_trials.proofs.trials.agrees.Goals as goal

pub loop-init : goal.loop-init
loop-init g c = record {
  loaded = row_in c.in_ok-two_rows.field-0;
  calls = [];
  rows = c.in_ok-two_rows.ensures.rows;
  is = c.in_ok-control.ensures.stands;
  follows = c.new-log.ensures;
}
