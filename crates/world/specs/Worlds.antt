-- What is seen of a world.
use Rattle.std.specs.Prelude.{◌≡◌, ℕ, List, ◌++◌, length, reverse, slice_get, Option, Some, option_to_list}
use Rattle.deneva_base.specs.declared.config.Config.{Config}
use Rattle.deneva_base.specs.declared.config.Protocol.{Protocol}
use Rattle.txn_program.specs.Valid.{IsValid}
use Rattle.txn_program.specs.declared.programs.Workload.{Workload}
use Rattle.server_core.specs.Configs.{IsConfig}
use Rattle.server_core.specs.Picks.{Progress}
use Rattle.server_core.specs.Roles.{Role}
use Rattle.server_core.specs.Runs.{heard}
use Rattle.server_core.specs.Says.{IsRun}
use Rattle.server_core.specs.declared.messages.Entry.{Entry}
use Rattle.server_core.specs.declared.messages.Mail.{Mail}
use Rattle.server_core.specs.declared.messages.Msg.{Msg}

-- its configuration, its workload, and how far it is
pub record Seen : Type 0 where
  pub config : Config
  pub work : Workload
  pub progress : Progress

-- it is a run of this protocol
pub record IsRunning (protocol : Protocol) (w : Seen) : Type 0 where
  pub ranges : IsConfig w.config
  pub valid : IsValid w.work
  pub of_protocol : w.config.protocol ≡ protocol
  pub run : IsRun w.config w.work w.progress.entries w.progress.flight

-- mails in line, the one that found no room there, and those said since
abbrev pub in_line : List Mail → Option Mail → List Mail → List Mail
in_line flight held said = flight ++ (option_to_list held ++ said)

-- its history has the oldest entry first
abbrev pub seen : Config → Workload → List Entry → List Mail → Seen
seen config work history flight = record { config = config; work = work; progress = record { entries = reverse history; flight = flight } }

-- the node of part p
abbrev pub role_in : Seen → ℕ → Role
role_in w p = record { config = w.config; work = w.work; part = p }

-- there is a node for each part, which stands for what it has handled
pub record HasNodes {S : Type 0} (role : S → Role) (stands : S → List Msg → Type 0) (nodes : List S) (w : Seen) : Type 0 where
  pub count : length nodes ≡ w.config.parts
  pub each : (p : ℕ) (s : S) → slice_get nodes p ≡ Some s → (role s ≡ role_in w p) × stands s (heard p w.progress.entries)
