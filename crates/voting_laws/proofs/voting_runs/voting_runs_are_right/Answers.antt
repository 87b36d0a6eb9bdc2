-- The laws of settings at the setting of a configuration and a workload.
use Rattle.protocol_rules.proofs.Voting.{choice}
use Rattle.server_core.proofs.configured.Limiteds.{limits}
use Rattle.server_core.proofs.configured.ValidSettings.{rule_served, valid}
use Rattle.voting_laws.proofs.Accounted.{listed}
use Rattle.voting_laws.proofs.Voted.{all_fitting, short, picked_quiet, atomic, all_named, decided, serial, told, in_order, rows}
use Rattle.voting_laws.proofs.voting_runs.voting_runs_are_right.Goals as goal

pub returns : goal.returns
returns g = record {
  fits = λ c w H flight k d v run. let o = choice c.protocol v in all_fitting c w o.0 o.1 (valid c w k d v) (limits c w k d v) H flight run;
  short = λ c w H flight k d v run. let o = choice c.protocol v in short c w o.0 o.1 (valid c w k d v) (limits c w k d v) H flight run;
  named = λ c w H flight k d v run. let o = choice c.protocol v in all_named c w o.0 o.1 (valid c w k d v) (limits c w k d v) H flight (rule_served c.protocol v).naming run;
  listed = λ c w H flight k d v run. listed c w k d v H flight run;
  picked = λ c w schedule k d v. let o = choice c.protocol v in picked_quiet c w o.0 o.1 (valid c w k d v) (limits c w k d v) schedule;
  atomic = λ c w H k d v run. let o = choice c.protocol v in atomic c w o.0 o.1 (valid c w k d v) (limits c w k d v) H run;
  serial = λ c w H k d v run.
      let o = choice c.protocol v in
      serial c w o.0 o.1 (valid c w k d v) (limits c w k d v) d H run (decided c w o.0 o.1 (valid c w k d v) (limits c w k d v) H (rule_served c.protocol v).waits run);
  told = λ c w H k d v run. let o = choice c.protocol v in told c w o.0 o.1 (valid c w k d v) (limits c w k d v) H run;
  in_order = λ c w H flight k d v run. let o = choice c.protocol v in in_order c w o.0 o.1 (valid c w k d v) (limits c w k d v) H flight run;
  rows = λ c w H key k d v run. let o = choice c.protocol v in rows c w o.0 o.1 (valid c w k d v) (limits c w k d v) d H run key;
}
