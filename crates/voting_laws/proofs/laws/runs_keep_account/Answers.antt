-- The law is a lemma.
use Rattle.voting_laws.proofs.numbers.Numbers.{run_good}
use Rattle.voting_laws.proofs.Accounted.{accounted}
use Rattle.voting_laws.proofs.laws.runs_keep_account.Goals as goal

pub returns : goal.returns
returns c = record { law = λ s H flight v l run. accounted s v H flight (run_good s v l H flight run) }
