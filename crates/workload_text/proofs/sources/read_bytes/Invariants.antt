use Rattle.std.proofs.Common.{◌≡◌, ◌≤◌, ◌-◌, length}
use Rattle.deneva_io.specs.Streams.{Gives}
use Rattle.workload_text.proofs.sources.read_bytes.Given as goal

-- the bytes so far are gone from the source
abbrev pub invariant-loop-count : goal.invariant-loop-count
invariant-loop-count g l =
    record {
      gave : Gives (g.S.Source.left l.initial.source) (g.S.Source.left l.source) l.all;
      count : g.S.Source.faults l.source ≡ g.S.Source.faults l.initial.source;
      fits : length l.all ≤ l.most;
      buffer : length l.buffer ≡ 4096;
    }

abbrev pub decreases-loop-count : goal.decreases-loop-count
decreases-loop-count g l = l.most - length l.all
