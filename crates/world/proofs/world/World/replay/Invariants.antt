use Rattle.std.proofs.Common.{◌≡◌, reverse, take}
use Rattle.world.proofs.world.World.replay.Given as goal

-- the entries so far are those of the world
abbrev pub invariant-loop-entry : goal.invariant-loop-entry
invariant-loop-entry g l = record {
  config : l.self.config ≡ l.fn.self.config;
  work : l.self.work ≡ l.fn.self.work;
  entries : l.self.progress.entries ≡ reverse (take l.entry-index l.history);
}
