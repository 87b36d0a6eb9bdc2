use Rattle.std.proofs.Common.{◌≡◌, ◌≤◌, ◌-◌, length, take}
use Rattle.deneva_io.specs.Streams.{Grew}
use Rattle.deneva_top.proofs.calls.write_all.Given as goal

-- the text so far is out
abbrev pub invariant-loop-at : goal.invariant-loop-at
invariant-loop-at g l =
    record {
      grew : Grew (g.K.Sink.taken l.initial.sink) (g.K.Sink.taken l.sink) (take l.at l.text);
      count : g.K.Sink.faults l.sink ≡ g.K.Sink.faults l.initial.sink;
      within : l.at ≤ length l.text;
    }

abbrev pub decreases-loop-at : goal.decreases-loop-at
decreases-loop-at g l = length l.text - l.at
