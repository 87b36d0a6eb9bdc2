-- The laws of settings at the setting of a configuration and a workload.
use Rattle.protocol_rules.proofs.Voting.{choice}
use Rattle.server_core.proofs.configured.Limiteds.{limits}
use Rattle.server_core.proofs.configured.ValidSettings.{valid}
use Rattle.server_core.specs.Setting.{setting}
use Rattle.voting_laws.proofs.Accounted.{good_run, run_accounted, stamps}
use Rattle.voting_laws.proofs.Voted.{voting_run}
use Rattle.voting_laws.proofs.account.NextHomes.{begins_next}
use Rattle.voting_laws.proofs.fits.Every.{atomic}
use Rattle.voting_laws.proofs.numbers.Events.{entries_of}
use Rattle.voting_laws.proofs.numbers.Numbers.{run_small}
use Rattle.voting_laws.proofs.voting_runs.voting_runs_keep_account.Goals as goal

pub returns : goal.returns
returns g = record {
  account = λ c w H flight k d v run. run_accounted c w k d v H flight run;
  next = λ c w H flight k d v run. begins_next (setting c w) (valid c w k d v) H flight (good_run c w k d v H flight run);
  entries = λ c w H flight who k d v run. entries_of (setting c w) (valid c w k d v) H flight (good_run c w k d v H flight run) who;
  small = λ c w H flight k d v run. let o = choice c.protocol v in run_small (setting c w) (valid c w k d v) (limits c w k d v) H flight (voting_run c w o.0 o.1 H flight run);
  commits = λ c w H flight k d v run. atomic (setting c w) (valid c w k d v) H flight (good_run c w k d v H flight run);
  stamps = λ c w H flight k d v run. stamps (setting c w) (valid c w k d v) H flight (good_run c w k d v H flight run);
}
