-- The laws give the setting and the run; that the workload is valid is computed.
use Rattle.std.proofs.Common.{◌≡◌, Some, refl, arith}
use Rattle.txn_program.specs.Valid.{IsValid}
use Rattle.deneva_base.specs.declared.config.Protocol.{Protocol}
use Rattle.protocol_rules.specs.Protocols.{Chosen, chosen, IsVoting}
use Rattle.protocol_rules.proofs.Voting.{choice}
use Rattle.server_core.specs.Configs.{IsConfig}
use Rattle.server_core.specs.Limits.{Limits}
use Rattle.server_core.specs.Proper.{Valid}
use Rattle.server_core.specs.Setting.{setting}
use Rattle.server_core.specs.declared.schedules.Schedule.TheVariants.{Fifo}
use Rattle.server_core.proofs.configured.Limiteds.{limits}
use Rattle.server_core.proofs.configured.ValidSettings.{valid}
use Rattle.voting_laws.proofs.Voted.{picked_quiet}
use Rattle.worked_examples.specs.Workloads.{over, three_writers_apart}
use Rattle.worked_examples.proofs.premises.each_voting_protocol_has_quiet_runs.Goals as goal

is_valid : IsValid three_writers_apart
is_valid = refl

in_range : (p : Protocol) → IsConfig (over p 2)
in_range p = record {
  some_parts = omega arith;
  few_parts = omega arith;
  some_attempts = omega arith;
  few_attempts = omega arith;
  some_open = omega arith;
  few_open = omega arith;
}

fit : (p : Protocol) → IsVoting p → Valid (setting (over p 2) three_writers_apart)
fit p votes = valid (over p 2) three_writers_apart (in_range p) is_valid votes

limited : (p : Protocol) → IsVoting p → Limits (setting (over p 2) three_writers_apart)
limited p votes = limits (over p 2) three_writers_apart (in_range p) is_valid votes

pub returns : goal.returns
returns c = record {
  config = in_range;
  setting = λ p votes. (fit p votes, limited p votes);
  quiet = λ p votes. let o = choice p votes in picked_quiet (over p 2) three_writers_apart o.0 o.1 (fit p votes) (limited p votes) Fifo;
}
