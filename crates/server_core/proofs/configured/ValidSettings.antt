-- Every configuration within its ranges and every valid workload meet what runs ask of a setting.
use Rattle.protocol_rules.specs.Protocols.{IsVoting, chosen}
use Rattle.protocol_rules.specs.Served.{Served}
use Rattle.protocol_rules.proofs.Served.{ServedIf, served_if}
use Rattle.protocol_rules.proofs.Voting.{by_choice}
use Rattle.deneva_base.specs.declared.config.Config.{Config}
use Rattle.deneva_base.specs.declared.config.Protocol.{Protocol}
use Rattle.txn_program.specs.Valid.{IsValid}
use Rattle.txn_program.specs.declared.programs.Workload.{Workload}
use Rattle.txn_program.proofs.WorkloadLaws as law
use Rattle.server_core.specs.Configs.{IsConfig}
use Rattle.server_core.specs.Proper.{Valid}
use Rattle.server_core.specs.Setting.{chosen_or_none, setting}
use Rattle.server_core.proofs.configured.Workloads as workload

-- the rule of a voting protocol meets what runs ask of one
pub rule_served : (p : Protocol) → IsVoting p → Served (chosen_or_none (chosen p)).rule
rule_served p votes = by_choice (λ o. ServedIf o → Served (chosen_or_none o).rule) p votes (λ o s. s) (served_if p)

pub valid : (c : Config) (w : Workload) → IsConfig c → IsValid w → IsVoting c.protocol → Valid (setting c w)
valid c w config v votes = record {
  parts = config.some_parts;
  attempts = config.some_attempts;
  limit = config.some_open;
  once = workload.once c w v;
  some = law.some_accesses w v;
  keys = workload.keys c w v;
  loads = workload.loads c w v;
  tables = law.access_table w v;
  fine = workload.fine c w v;
  writes = workload.writes c w v;
  distinct = workload.distinct c w v;
  appends = λ x rows r i. workload.appends c w v x rows c.parts config.some_parts r i;
  distinct_appends = workload.distinct_appends c w v;
  effects = workload.effects c w v;
  fine_appends = workload.fine_appends c w v;
  rule = (rule_served c.protocol votes).lawful;
}
