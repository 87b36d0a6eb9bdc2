-- The laws are lemmas.
use Rattle.voting_laws.proofs.named.Names.{named}
use Rattle.voting_laws.proofs.named.OneLine.{lists_aborts}
use Rattle.voting_laws.proofs.numbers.Numbers.{run_good, run_under, run_top}
use Rattle.voting_laws.proofs.laws.aborts_are_named.Goals as goal

pub returns : goal.returns
returns c = record {
  law = λ s H flight l v lim nm run i. named s v nm H flight (run_good s v lim H flight run) (run_top s lim H) (run_under s v lim H flight run).0 (run_under s v lim H flight run).1 l i;
  listed = λ s H flight v lim run. lists_aborts s v H flight (run_good s v lim H flight run);
}
