use Rattle.std.proofs.Common.{◌≡◌, ◌-◌, ◌+◌, ◌≤◌, take, drop}
use Rattle.calvin_seq.proofs.sequencer.Sequencer.batch.Given as goal

-- those so far are in the batch, and they are at most eight
abbrev pub invariant-loop-at : goal.invariant-loop-at
invariant-loop-at l =
    record {
      taken : l.ids ≡ take (l.at - l.first) (drop l.first l.self.homes.items);
      few : l.at ≤ l.first + 8;
    }
