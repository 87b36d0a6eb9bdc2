use Rattle.std.proofs.Common.{refl}
use Rattle.protocol_rules.specs.Maat.{maat}
use Rattle.shelf.proofs.Versions.{present, promised}
use Rattle.range_control.proofs.Calls.{wakes, abort_tracks}
use Rattle.range_control.proofs.ranges.Ranges4096Control.abort.Goals as goal

pub end-requires-clause-present : goal.end-requires-clause-present
end-requires-clause-present c = let m = c.requires.may in present (maat 4096 m.0) m.2.tracks.kept m.2.obeys (wakes 4096 c.args.self.now.table m.0 m.1 m.2) c.args.who m.3.unended

pub end-requires-clause-promised : goal.end-requires-clause-promised
end-requires-clause-promised c = let m = c.requires.may in promised (maat 4096 m.0) m.2.tracks.kept m.2.obeys c.args.who m.3.unended

pub returns-clause-stands : goal.returns-clause-stands
returns-clause-stands c loaded h stands may = record { obeys = (may, refl, stands.obeys); tracks = abort_tracks 4096 c.args.self.now.table loaded h stands c.args.who c.end.new.self may c.end.ensures }
