use Rattle.std.proofs.Common.{ℕ, ◌-◌, length}
use Rattle.server_core.specs.Picks.{most_entries}
use Rattle.world.proofs.Running.{Ran}
use Rattle.world.proofs.world.World.run.Given as goal

-- so many deliveries were made, and the picker stands at the next one
abbrev pub invariant-loop-picker : goal.invariant-loop-picker
invariant-loop-picker g l = (n : ℕ) × Ran l.schedule l.fn.self l.self l.picker n

abbrev pub decreases-loop-picker : goal.decreases-loop-picker
decreases-loop-picker g l = most_entries l.self.config l.self.work - length l.self.progress.entries
