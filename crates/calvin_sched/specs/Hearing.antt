-- What is owed by a node of CALVIN on one message.
use Rattle.std.specs.Prelude.{◌≡◌, ℕ, List, ◌∷◌, ◌++◌}
use Rattle.server_core.specs.Calvin.{says}
use Rattle.server_core.specs.CalvinFits.{Suits}
use Rattle.server_core.specs.Roles.{setting_of}
use Rattle.server_core.specs.declared.messages.Mail.{Mail}
use Rattle.server_core.specs.declared.messages.Msg.{Msg}
use Rattle.calvin_sched.specs.Standing.{CalvinStands}
use Rattle.calvin_sched.specs.declared.node.CalvinNode.{CalvinNode}

-- it suits messages that the node stands for
abbrev pub IsFitting : CalvinNode → ℕ → Msg → Type 0
IsFitting n from m = (ms : List Msg) × CalvinStands n ms × Suits (setting_of n.role) n.role.part from m ms

-- what is said on it, at the end of what was said before, is what the definition has the node say
abbrev pub SaysOn : CalvinNode → ℕ → Msg → List Mail → List Mail → Type 0
SaysOn n from m before now = (ms : List Msg) → CalvinStands n ms → Suits (setting_of n.role) n.role.part from m ms → now ≡ before ++ says (setting_of n.role) n.role.part (m ∷ ms)

-- the node stands for one message more
abbrev pub StandsWith : CalvinNode → ℕ → Msg → CalvinNode → Type 0
StandsWith n from m now = (ms : List Msg) → CalvinStands n ms → Suits (setting_of n.role) n.role.part from m ms → CalvinStands now (m ∷ ms)

-- the node stands for the same
abbrev pub StandsStill : CalvinNode → CalvinNode → Type 0
StandsStill n now = (ms : List Msg) → CalvinStands n ms → CalvinStands now ms
