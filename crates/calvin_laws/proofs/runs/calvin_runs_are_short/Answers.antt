-- The laws are lemmas.
use Rattle.std.proofs.Common.{arith}
use Rattle.calvin_laws.proofs.counts.Bounds.{clock_most, each_most, all_most}
use Rattle.calvin_laws.proofs.counts.Limits.{run_short, number_small}
use Rattle.calvin_laws.proofs.runs.calvin_runs_are_short.Goals as goal

pub returns : goal.returns
returns c = record {
  clock = λ s H flight v run. clock_most s v H flight run;
  each = λ s H flight x v run i. each_most s v H flight run x i;
  all = λ s H flight v run. all_most s v H flight run;
  small = λ s H flight v l run. omega (arith, run_short s l v H flight run);
  numbers = λ s x v l i. omega (arith, number_small s l v x i);
}
