-- What a node stands for.
use Rattle.std.specs.Prelude.{◌≡◌, List}
use Rattle.protocol_rules.specs.History.{History}
use Rattle.deneva_base.specs.Rows.{Rows}
use Rattle.protocol_rules.specs.Rules.{Rule}
use Rattle.protocol_rules.specs.Protocols.{IsVoting}
use Rattle.server_core.specs.Participant.{calls}
use Rattle.server_core.specs.Setting.{loaded_at}
use Rattle.server_core.specs.VotingFits.{AllFit}
use Rattle.server_core.specs.declared.messages.Msg.{Msg}
use Rattle.coord.specs.Standing.{role_of, Coordinates}
use Rattle.node_core.specs.declared.node.Node.{Node}
use Rattle.server_core.specs.declared.role.Role.{Role}
use Rattle.server_core.specs.Roles as roles
use Rattle.server_core.specs.Roles.{setting_of}

-- the messages fitted, each in its turn, and the control of the partition, which answers by the protocol's rule, stands
-- for the calls that they make
pub record Partakes {C : Type 0} (stands : C → Rows → History → Type 0) (rule : Rows → Rule) (role : Role) (control : C) (ms : List Msg) : Type 0 where
  pub votes : IsVoting role.config.protocol
  pub rule_is : (setting_of role).rule ≡ rule
  pub fit : AllFit (setting_of role) role.part ms
  pub calls : stands control (loaded_at (setting_of role) role.part) (calls (setting_of role) role.part ms)

-- so do coordinator and participant of a node
pub record NodeStands {C : Type 0} (stands : C → Rows → History → Type 0) (rule : Rows → Rule) (n : Node C) (ms : List Msg) : Type 0 where
  pub role : role_of n.coord ≡ roles.role_of n.role
  pub coord : Coordinates n.coord ms
  pub participant : Partakes stands rule n.role n.control ms
