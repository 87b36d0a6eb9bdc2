-- What a run tells of one transaction.
use Rattle.std.specs.Prelude.{◌≡◌, List, map}
use Rattle.deneva_base.specs.Lists.{IsIn}
use Rattle.txn_program.specs.Serial.{all_ids, program_of}
use Rattle.server_core.specs.Roles.{setting_of}
use Rattle.server_core.specs.Runs.{heard}
use Rattle.server_core.specs.Setting.{home, participants_for}
use Rattle.server_core.specs.declared.messages.Entry.{Entry}
use Rattle.server_core.specs.declared.role.Role.{Role}
use Rattle.run_outcomes.specs.Naming.{entries_of}
use Rattle.run_outcomes.specs.declared.stories.Story.{Story}

-- it is a transaction of the workload, with its entries of this history and the messages among them that its home handled
pub record Tells (r : Role) (H : List Entry) (t : Story) : Type 0 where
  pub known : IsIn t.id (all_ids r.work.now)
  pub program : t.program.now ≡ program_of r.work.now t.id
  pub home : t.home ≡ home (setting_of r) t.id
  pub accesses : t.accesses ≡ (setting_of r).accesses t.id
  pub participants : t.participants ≡ participants_for (setting_of r) t.id
  pub entries : map (λ e. e.now) t.entries.items ≡ entries_of t.id H
  pub messages : map (λ m. m.now) t.messages.items ≡ heard t.home (entries_of t.id H)
