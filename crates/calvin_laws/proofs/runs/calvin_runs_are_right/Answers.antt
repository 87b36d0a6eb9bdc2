-- The laws over settings at the setting of a configuration and a workload.
use Rattle.std.proofs.Common.{arith}
use Rattle.calvin_laws.proofs.Configured.{none_named, all_fitting, short, clock, each_entries, few_entries, small_numbers, picked_quiet, atomic, finished_here, serial, told, in_report_order, rows, numbered, ordered_outcome, one}
use Rattle.calvin_laws.proofs.runs.calvin_runs_are_right.Goals as goal

pub returns : goal.returns
returns g = record {
  fits = λ c w H flight k d is run. all_fitting c w is k d H flight run;
  short = λ c w H flight k d is run. short c w is k d H flight run;
  clock = λ c w H flight k d is run. clock c w is k d H flight run;
  each = λ c w H flight x k d is run i. each_entries c w is k d H flight x run i;
  small = λ c w H flight k d is run. omega (arith, few_entries c w is k d H flight run);
  numbers = λ c w x k d is i. omega (arith, small_numbers c w is k d x i);
  named = λ c w H is. none_named c w is H;
  picked = λ c w schedule k d is. picked_quiet c w is k d schedule;
  atomic = λ c w H k d is run. atomic c w is k d H run;
  finished = λ c w H x k d is run i. finished_here c w is k d H run x i;
  serial = λ c w H k d is run. serial c w is k d H run;
  told = λ c w H k d is run. told c w is k d H run;
  in_order = λ c w H k d is run. in_report_order c w is k d H run;
  rows = λ c w H key k d is run. rows c w is k d H run key;
  ordered = λ c w H k d is run. ordered_outcome c w is k d H run;
  one = λ c w H K k d is r q. one c w is k d H K r q;
  order = λ c w H k d is run. numbered c w is k d H run;
}
