-- Deliveries make runs, whatever the protocol.
use Rattle.std.proofs.Common.{ℕ, sym, subst, ⊎_elim}
use Rattle.deneva_base.specs.declared.config.Config.{Config}
use Rattle.protocol_rules.proofs.Voting.{votes_or_not}
use Rattle.txn_program.specs.Valid.{IsValid}
use Rattle.txn_program.specs.declared.programs.Workload.{Workload}
use Rattle.server_core.specs.Configs.{IsConfig}
use Rattle.server_core.specs.Family.{Family}
use Rattle.server_core.specs.Picks.{Progress, deliver}
use Rattle.server_core.specs.Runs.{Reaches}
use Rattle.server_core.specs.Says.{IsRun, says}
use Rattle.server_core.specs.Setting.{setting}
use Rattle.server_core.proofs.configured.CalvinSettings as ordered
use Rattle.server_core.proofs.configured.Families.{family_votes, family_orders}
use Rattle.server_core.proofs.configured.Limiteds.{limits}
use Rattle.server_core.proofs.configured.ValidSettings.{valid}
use Rattle.voting_laws.proofs.numbers.Deliveries as voted
use Rattle.calvin_laws.proofs.counts.Deliveries as calvin

module _ (c : Config) (w : Workload) (ranges : IsConfig c) (good : IsValid w) where
  abbrev Delivers : Family → Type 0
  Delivers f = (k : ℕ) (p : Progress) → Reaches (f.says (setting c w)) (f.opening (setting c w)) p.entries p.flight
      → Reaches (f.says (setting c w)) (f.opening (setting c w)) (deliver (f.says (setting c w)) k p).entries (deliver (f.says (setting c w)) k p).flight

  pub deliver_run : (k : ℕ) (p : Progress) → IsRun c w p.entries p.flight → IsRun c w (deliver (says c w) k p).entries (deliver (says c w) k p).flight
  deliver_run =
      ⊎_elim
      (λ votes. subst Delivers (sym (family_votes c.protocol votes)) (voted.deliver_run (setting c w) (valid c w ranges good votes) (limits c w ranges good votes)))
      (λ is. subst Delivers (sym (family_orders c.protocol is)) (calvin.deliver_run (setting c w) (ordered.valid c w good ranges)))
      (votes_or_not c.protocol)
