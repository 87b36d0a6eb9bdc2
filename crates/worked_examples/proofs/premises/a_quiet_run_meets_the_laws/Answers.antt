-- Computed, but for the run and the conclusions, which the laws give.
use Rattle.std.proofs.Common.{refl, arith, []}
use Rattle.std.specs.Fmt.{digits}
use Rattle.csv.specs.Writing.{escaped, fields_text, is_blank}
use Rattle.txn_program.specs.Valid.{IsValid}
use Rattle.deneva_base.specs.declared.config.Protocol.TheVariants.{WaitDie}
use Rattle.server_core.specs.Configs.{IsConfig}
use Rattle.protocol_rules.specs.Protocols.{IsVoting}
use Rattle.server_core.specs.Limits.{Limits}
use Rattle.server_core.specs.Picks.{picked}
use Rattle.server_core.specs.Proper.{Valid}
use Rattle.server_core.specs.Says.{IsQuiet}
use Rattle.server_core.specs.Setting.{setting}
use Rattle.server_core.specs.declared.schedules.Schedule.TheVariants.{Fifo}
use Rattle.server_core.proofs.configured.Limiteds.{limits}
use Rattle.server_core.proofs.configured.ValidSettings.{rule_served, valid}
use Rattle.voting_laws.proofs.Voted.{picked_quiet, all_named, atomic, serial, decided, told, in_order}
use Rattle.worked_examples.specs.Workloads.{two_tries, three_writers_apart}
use Rattle.worked_examples.proofs.premises.a_quiet_run_meets_the_laws.Goals as goal

is_valid : IsValid three_writers_apart
is_valid = refl

in_range : IsConfig two_tries
in_range = record {
  some_parts = omega arith;
  few_parts = omega arith;
  some_attempts = omega arith;
  few_attempts = omega arith;
  some_open = omega arith;
  few_open = omega arith;
}

votes : IsVoting WaitDie
votes e = cc (e)

fit : Valid (setting two_tries three_writers_apart)
fit = valid two_tries three_writers_apart in_range is_valid votes

limited : Limits (setting two_tries three_writers_apart)
limited = limits two_tries three_writers_apart in_range is_valid votes

is_quiet : IsQuiet two_tries three_writers_apart (picked two_tries three_writers_apart Fifo)
is_quiet = picked_quiet two_tries three_writers_apart _ refl fit limited Fifo

pub returns : goal.returns
unfolding digits escaped fields_text is_blank
returns c =
    let H = picked two_tries three_writers_apart Fifo in
    record {
      workload = is_valid;
      config = in_range;
      quiet = is_quiet;
      waits = refl;
      restarts = refl;
      report = refl;
      named = all_named two_tries three_writers_apart _ refl fit limited H [] (rule_served WaitDie votes).naming is_quiet;
      atomic = atomic two_tries three_writers_apart _ refl fit limited H is_quiet;
      serial = serial two_tries three_writers_apart _ refl fit limited is_valid H is_quiet (decided two_tries three_writers_apart _ refl fit limited H (rule_served WaitDie votes).waits is_quiet);
      told = told two_tries three_writers_apart _ refl fit limited H is_quiet;
      in_order = in_order two_tries three_writers_apart _ refl fit limited H [] is_quiet;
    }
