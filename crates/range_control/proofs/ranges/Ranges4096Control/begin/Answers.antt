use Rattle.range_control.proofs.Answering.{fresh_tracks}
use Rattle.range_control.proofs.ranges.Ranges4096Control.begin.Goals as goal

pub returns : goal.returns
returns c = record { stands = record { obeys = tt; tracks = fresh_tracks c.args.store c.new-table.result c.new-table.ensures c.requires.loaded } }
