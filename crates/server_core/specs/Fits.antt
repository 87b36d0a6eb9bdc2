-- The messages that fit what a node has handled.
use Rattle.std.specs.Prelude.{ℕ, ◌^◌, ◌<◌, List, length}
use Rattle.deneva_base.specs.Lists.{IsIn}
use Rattle.deneva_base.specs.declared.config.Config.{Config}
use Rattle.txn_program.specs.declared.programs.Workload.{Workload}
use Rattle.server_core.specs.Family.{family}
use Rattle.server_core.specs.Runs.{heard}
use Rattle.server_core.specs.Setting.{setting}
use Rattle.server_core.specs.Small.{SmallMsg}
use Rattle.server_core.specs.declared.messages.Entry.{Entry}
use Rattle.server_core.specs.declared.messages.Mail.{Mail}
use Rattle.server_core.specs.declared.messages.Msg.{Msg}

-- a message to p from f fits the list ms that p has handled: ms is short, the message's numbers are small, and it suits
-- ms by its kind
pub record FitsBy (by_kind : ℕ → ℕ → Msg → List Msg → Type 0) (p f : ℕ) (m : Msg) (ms : List Msg) : Type 0 where
  pub short : length ms < 2 ^ 32
  pub small : SmallMsg m
  pub suits : by_kind p f m ms

-- each mail in flight fits what its node has handled
abbrev pub AllFittingBy : (ℕ → ℕ → Msg → List Msg → Type 0) → List Entry → List Mail → Type 0
AllFittingBy suits H flight = (x : Mail) → IsIn x flight → FitsBy suits x.to x.from x.msg (heard x.to H)

abbrev pub Fits : Config → Workload → ℕ → ℕ → Msg → List Msg → Type 0
Fits c w = FitsBy ((family c.protocol).suits (setting c w))

abbrev pub AllFitting : Config → Workload → List Entry → List Mail → Type 0
AllFitting c w = AllFittingBy ((family c.protocol).suits (setting c w))
