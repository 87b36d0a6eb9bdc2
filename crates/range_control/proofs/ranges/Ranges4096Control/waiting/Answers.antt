use Rattle.std.proofs.Common.{sym, ap, length}
use Rattle.range_control.proofs.Calls.{nothing_waits}
use Rattle.range_control.proofs.ranges.Ranges4096Control.waiting.Goals as goal

pub returns : goal.returns
returns c loaded h stands = sym (ap length (nothing_waits 4096 c.args.self.now.table loaded h stands))
