-- What is said of any protocol holds of those that vote and of Calvin.
use Rattle.std.proofs.Common.{[], ap, ◌∙◌, ⊎_elim}
use Rattle.deneva_base.specs.Partitions.{partition_of}
use Rattle.server_core.specs.Family.{Family}
use Rattle.server_core.specs.Runs.{heard}
use Rattle.server_core.specs.Says.{says, opening_mails}
use Rattle.server_core.specs.Setting.{setting}
use Rattle.protocol_rules.proofs.Voting.{choice, votes_or_not}
use Rattle.server_core.proofs.configured.Families.{family_votes}
use Rattle.calvin_laws.proofs.Configured as ordered
use Rattle.server_core.proofs.flight.Flights.{one_flight}
use Rattle.server_core.proofs.configured.Limiteds.{limits}
use Rattle.run_laws.proofs.NodeLaws.{mails_fit, runs_end, mails_between, rows_kept_apart}
use Rattle.server_core.proofs.configured.ValidSettings.{rule_served, valid}
use Rattle.voting_laws.proofs.Accounted.{run_accounted}
use Rattle.voting_laws.proofs.Voted as voted
use Rattle.run_laws.proofs.every_run.runs_are_right.Goals as goal

pub returns : goal.returns
returns g = record {
  fits = λ c w H flight k d run. mails_fit c w H flight k d run;
  short = λ c w H flight k d run. runs_end c w H flight k d run;
  lands = λ c w H flight x k d run i. mails_between c w H flight k d run x i;
  kept_apart = λ c w H flight p key k d run ne. rows_kept_apart c w H flight k d run p key ne;
  flight = λ c w H flight other r q. one_flight (says c w) (opening_mails c w) H flight other r q;
  named = λ c w H flight k d run.
      ⊎_elim
      (λ v. let o = choice c.protocol v in voted.all_named c w o.0 o.1 (valid c w k d v) (limits c w k d v) H flight (rule_served c.protocol v).naming run)
      (λ is. ordered.none_named c w is H)
      (votes_or_not c.protocol);
  account = λ c w H flight k d v run. run_accounted c w k d v H flight run;
  picked = λ c w schedule k d.
      ⊎_elim
      (λ v. let o = choice c.protocol v in voted.picked_quiet c w o.0 o.1 (valid c w k d v) (limits c w k d v) schedule)
      (λ is. ordered.picked_quiet c w is k d schedule)
      (votes_or_not c.protocol);
  atomic = λ c w H k d run.
      ⊎_elim
      (λ v. let o = choice c.protocol v in voted.atomic c w o.0 o.1 (valid c w k d v) (limits c w k d v) H run)
      (λ is. ordered.atomic c w is k d H run)
      (votes_or_not c.protocol);
  serial = λ c w H k d run.
      ⊎_elim
      (λ v.
      let o = choice c.protocol v in
      voted.serial c w o.0 o.1 (valid c w k d v) (limits c w k d v) d H run (voted.decided c w o.0 o.1 (valid c w k d v) (limits c w k d v) H (rule_served c.protocol v).waits run))
      (λ is. ordered.serial c w is k d H run)
      (votes_or_not c.protocol);
  told = λ c w H k d run.
      ⊎_elim
      (λ v. let o = choice c.protocol v in voted.told c w o.0 o.1 (valid c w k d v) (limits c w k d v) H run)
      (λ is. ordered.told c w is k d H run)
      (votes_or_not c.protocol);
  in_order = λ c w H k d run.
      ⊎_elim
      (λ v. let o = choice c.protocol v in voted.in_order c w o.0 o.1 (valid c w k d v) (limits c w k d v) H [] run)
      (λ is. ordered.in_report_order c w is k d H run)
      (votes_or_not c.protocol);
  rows = λ c w H key k d run.
      ⊎_elim
      (λ v.
      let o = choice c.protocol v in
      let p = partition_of key c.parts in
      ap (λ (f : Family). f.rows (setting c w) p (heard p H) key) (family_votes c.protocol v) ∙ voted.rows c w o.0 o.1 (valid c w k d v) (limits c w k d v) d H run key)
      (λ is. ordered.rows c w is k d H run key)
      (votes_or_not c.protocol);
}
