use Rattle.std.proofs.Common.{◌≡◌, ◌<◌, ◌+◌, ◌-◌, length, take, drop}
use Rattle.world.specs.Chunks.{joined}
use Rattle.world.proofs.flight.find.Given as goal

-- the item lies at `place` among the chunks from this one on
abbrev pub invariant-loop-place : goal.invariant-loop-place
invariant-loop-place g l = record {
  inside : l.place < length (joined (drop l.chunk l.chunks.items));
  sum : length (joined (take l.chunk l.chunks.items)) + l.place ≡ l.index;
}

abbrev pub decreases-loop-place : goal.decreases-loop-place
decreases-loop-place g l = length l.chunks.items - l.chunk
