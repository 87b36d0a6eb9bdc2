-- The law is a lemma.
use Rattle.voting_laws.proofs.numbers.Numbers.{run_good}
use Rattle.voting_laws.proofs.Accounted.{stamps}
use Rattle.voting_laws.proofs.laws.stamps_tell.Goals as goal

pub returns : goal.returns
returns c = record { law = λ s H flight v l run. stamps s v H flight (run_good s v l H flight run) }
