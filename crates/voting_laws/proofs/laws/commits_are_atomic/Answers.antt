-- The laws are lemmas.
use Rattle.std.specs.Prelude.{[]}
use Rattle.voting_laws.proofs.numbers.Numbers.{run_good}
use Rattle.voting_laws.proofs.fits.Every.{atomic}
use Rattle.voting_laws.proofs.Wholes.{whole}
use Rattle.voting_laws.proofs.laws.commits_are_atomic.Goals as goal

pub returns : goal.returns
returns c = record {
  law = λ s H flight v l run. atomic s v H flight (run_good s v l H flight run);
  quiet = λ s H x v l run. whole s v H (run_good s v l H [] run) x;
}
