use Rattle.stamp_control.proofs.Calls.{fresh_tracks}
use Rattle.stamp_control.proofs.stamps.StampsControl.begin.Goals as goal

pub returns : goal.returns
returns c = record { stands = record { obeys = tt; tracks = fresh_tracks c.args.store c.new-table.result c.new-table.ensures c.requires.loaded } }
