-- What a coordinator stands for: the messages that it has handled, the newest first.
use Rattle.std.specs.Prelude.{◌≡◌, ℕ, ◌+◌, ◌^◌, ◌≤◌, List, length, Bool, true, false, Option}
use Rattle.deneva_base.specs.declared.numbers.TxnId.{TxnId}
use Rattle.protocol_rules.specs.Protocols.{IsVoting}
use Rattle.server_core.specs.Coordinator.{overs}
use Rattle.server_core.specs.Roles as seen
use Rattle.server_core.specs.Roles.{Role, setting_of}
use Rattle.server_core.specs.Setting.{homes}
use Rattle.server_core.specs.Stamps.{counter}
use Rattle.server_core.specs.VotingFits.{AllFit}
use Rattle.server_core.specs.declared.messages.Msg.{Msg}
use Rattle.server_core.specs.declared.role.Role as roles
use Rattle.server_core.specs.declared.messages.Msg.TheVariants.{Ask, Prepare, Commit, Abort}
use Rattle.coord.specs.declared.coord.Coord.{Coord}
use Rattle.coord.specs.Following.{turns_of, Follows}
use Rattle.coord.specs.Open.{state_at}
use Rattle.coord.specs.States.{State}

abbrev pub role_of : Coord → Role
role_of c = seen.role_of c.role

-- the messages fit one after another; the counter of stamps is what they make it; the home transactions stand in file
-- order, the next of them behind those that began at first or when one was over; and each transaction that is open has
-- the state that they give
pub record Stands (role : roles.Role) (fixed : Bool) (counter' : ℕ) (homes' : List TxnId) (next' : ℕ) (open' : TxnId → Option State) (ms : List Msg) : Type 0 where
  pub voting : IsVoting role.config.protocol
  pub keeps : (setting_of role).fixed ≡ fixed
  pub fit : AllFit (setting_of role) role.part ms
  pub count : counter' ≡ counter (setting_of role) ms
  pub small : counter' ≤ 2 ^ 48 + length ms
  pub order : homes' ≡ homes (setting_of role) role.part
  pub place : next' ≡ (setting_of role).limit + overs (setting_of role) ms
  pub follows : (x : TxnId) → Follows (setting_of role) x (turns_of (setting_of role) role.part ms x) (open' x)

abbrev pub Coordinates : Coord → List Msg → Type 0
Coordinates c ms = Stands c.role c.fixed c.counter c.homes.items c.next (state_at c.open) ms

-- a message to a participant
abbrev pub is_call : Msg → Bool
is_call (Ask who stamp key mode) = true
is_call (Prepare who bound writes appends) = true
is_call (Commit who number) = true
is_call (Abort who) = true
is_call m = false
