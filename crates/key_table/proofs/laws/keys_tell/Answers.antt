use Rattle.key_table.proofs.Places.{same_tells}
use Rattle.key_table.proofs.laws.keys_tell.Goals as goal

pub returns : goal.returns
returns c = same_tells
