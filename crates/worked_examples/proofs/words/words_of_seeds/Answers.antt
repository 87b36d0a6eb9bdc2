-- Computed.
use Rattle.std.proofs.Common.{refl}
use Rattle.rand_pcg.specs.Lcg.{state_after}
use Rattle.worked_examples.proofs.words.words_of_seeds.Goals as goal

pub returns : goal.returns
unfolding state_after
returns c = record { first = refl; second = refl; third = refl; other_seed = refl }
