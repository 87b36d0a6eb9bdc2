-- The laws are lemmas.
use Rattle.std.proofs.Common.{refl}
use Rattle.voting_laws.proofs.numbers.Numbers.{run_good}
use Rattle.voting_laws.proofs.serial.SerialOutcomes.{never_both}
use Rattle.voting_laws.proofs.account.Ended.{quiet_decided}
use Rattle.voting_laws.proofs.laws.quiet_means_decided.Goals as goal

pub returns : goal.returns
returns c = record {
  law = λ s H x v l w run i. quiet_decided s v l w H run x i;
  not_both = λ s H flight l g v lim run i j e. never_both s v H flight (run_good s v lim H flight run) g.id (l, i, e) (g, j, refl);
}
