use Rattle.world.proofs.Positions.{seeded_first}
use Rattle.world.proofs.picker.Picker.new.Goals as goal

pub returns-in-Seed : goal.returns-in-Seed
returns-in-Seed c = seeded_first _ c.args.schedule.now c.new.result c.in-Seed.is c.new.ensures
