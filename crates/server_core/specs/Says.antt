-- What a node says under any protocol, and runs.
use Rattle.std.specs.Prelude.{ℕ, List, []}
use Rattle.deneva_base.specs.declared.config.Config.{Config}
use Rattle.txn_program.specs.declared.programs.Workload.{Workload}
use Rattle.server_core.specs.Family.{family}
use Rattle.server_core.specs.Runs.{Reaches}
use Rattle.server_core.specs.Setting.{setting}
use Rattle.server_core.specs.declared.messages.Entry.{Entry}
use Rattle.server_core.specs.declared.messages.Mail.{Mail}
use Rattle.server_core.specs.declared.messages.Msg.{Msg}

-- what node p says on the last of its messages, which are listed with the newest first
abbrev pub says : Config → Workload → ℕ → List Msg → List Mail
says c w p ms = (family c.protocol).says (setting c w) p ms

-- the mails in flight at the start
abbrev pub opening_mails : Config → Workload → List Mail
opening_mails c w = (family c.protocol).opening (setting c w)

-- these entries, the newest first, are a run after which these mails are in flight
abbrev pub IsRun : Config → Workload → List Entry → List Mail → Type 0
IsRun c w H flight = Reaches (says c w) (opening_mails c w) H flight

-- nothing is in flight after them
abbrev pub IsQuiet : Config → Workload → List Entry → Type 0
IsQuiet c w H = IsRun c w H []
