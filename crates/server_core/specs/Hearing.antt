-- What is owed on one message by a node, or a side of one, that stands for the messages before it.
use Rattle.std.specs.Prelude.{◌≡◌, ℕ, List, ◌∷◌, ◌++◌}
use Rattle.server_core.specs.Roles.{Role, FitsRole, said_by}
use Rattle.server_core.specs.declared.messages.Mail.{Mail}
use Rattle.server_core.specs.declared.messages.Msg.{Msg}

-- it fits messages that are stood for
abbrev pub IsFitting : (List Msg → Type 0) → Role → ℕ → Msg → Type 0
IsFitting stands role from m = (ms : List Msg) × stands ms × FitsRole role from m ms

-- what is said on it, at the end of what was said before, is what the definition has the node say
abbrev pub SaysOn : (List Msg → Type 0) → Role → ℕ → Msg → List Mail → List Mail → Type 0
SaysOn stands role from m before now = (ms : List Msg) → stands ms → FitsRole role from m ms → now ≡ before ++ said_by role (m ∷ ms)

-- one message more is stood for
abbrev pub StandsWith : (List Msg → Type 0) → Role → ℕ → Msg → (List Msg → Type 0) → Type 0
StandsWith stands role from m stands_now = (ms : List Msg) → stands ms → FitsRole role from m ms → stands_now (m ∷ ms)

-- the same is stood for
abbrev pub StandsStill : (List Msg → Type 0) → (List Msg → Type 0) → Type 0
StandsStill stands stands_now = (ms : List Msg) → stands ms → stands_now ms
