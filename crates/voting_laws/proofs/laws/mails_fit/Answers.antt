-- The law is a lemma.
use Rattle.voting_laws.proofs.fits.Every.{each_fits}
use Rattle.voting_laws.proofs.numbers.Numbers.{run_good, run_small}
use Rattle.voting_laws.proofs.laws.mails_fit.Goals as goal

pub returns : goal.returns
returns c = record { law = λ s H flight v l run. each_fits s v H flight (run_good s v l H flight run) (run_small s v l H flight run) }
