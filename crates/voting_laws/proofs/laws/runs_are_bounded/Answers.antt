-- The laws are lemmas.
use Rattle.voting_laws.proofs.numbers.Numbers.{run_good, run_small}
use Rattle.voting_laws.proofs.numbers.Events.{entries_of, run_short}
use Rattle.voting_laws.proofs.laws.runs_are_bounded.Goals as goal

pub returns : goal.returns
returns c = record {
  each = λ s H flight who v l run. entries_of s v H flight (run_good s v l H flight run) who;
  all = λ s H flight v l run. run_short s v H flight (run_good s v l H flight run);
  small = λ s H flight v l run. run_small s v l H flight run;
}
