-- Which delivery is the next one.
use Rattle.std.specs.Prelude.{◌≡◌, ℕ, min, length}
use Rattle.rand_pcg.specs.Lcg.{advance, increment_of, started}
use Rattle.rand_pcg.specs.Pcg.{multiplier_64}
use Rattle.server_core.specs.declared.schedules.Schedule.{Schedule}
use Rattle.server_core.specs.declared.schedules.Schedule.TheVariants as schedules
use Rattle.world.specs.declared.picker.Picker.{Picker}
use Rattle.world.specs.declared.picker.Picker.TheVariants as pickers

-- the next position that it gives is that of delivery i
abbrev pub AtTurn : Schedule → ℕ → Picker → Type 0
AtTurn schedules.Fifo i pickers.First = Unit {0}
AtTurn schedules.Lifo i pickers.Last = Unit {0}
AtTurn (schedules.Seed seed) i (pickers.Seeded rng) = rng ≡ advance 64 multiplier_64 i (started 64 multiplier_64 seed (increment_of 64 2))
AtTurn (schedules.Listed numbers) i (pickers.Listed listed next) = (listed.now ≡ numbers) × (next ≡ min i (length numbers))
AtTurn schedule i picker = ⊥
