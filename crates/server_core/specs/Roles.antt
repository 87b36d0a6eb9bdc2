-- Which node of which run a server is.
use Rattle.std.specs.Prelude.{ℕ, List, ◌==◌}
use Rattle.std.specs.List.{filter}
use Rattle.deneva_base.specs.Partitions.{partition_of}
use Rattle.deneva_base.specs.Rows.{Rows}
use Rattle.deneva_base.specs.declared.config.Config.{Config}
use Rattle.deneva_base.specs.declared.keys.Access.{Access}
use Rattle.deneva_base.specs.declared.numbers.TxnId.{TxnId}
use Rattle.txn_program.specs.declared.programs.Workload.{Workload}
use Rattle.server_core.specs.Fits.{Fits}
use Rattle.server_core.specs.NodeRows.{rows_of_node}
use Rattle.server_core.specs.Says.{says}
use Rattle.server_core.specs.Setting.{Setting, setting}
use Rattle.server_core.specs.declared.messages.Mail.{Mail}
use Rattle.server_core.specs.declared.messages.Msg.{Msg}
use Rattle.server_core.specs.declared.role.Role as roles

pub record Role : Type 0 where
  pub config : Config
  pub work : Workload
  pub part : ℕ

-- that of a node
abbrev pub role_of : roles.Role → Role
role_of r = record { config = r.config; work = r.work.now; part = r.part }

-- what its run takes of configuration and workload
abbrev pub setting_of : roles.Role → Setting
setting_of r = setting r.config r.work.now

-- the accesses of a transaction at a partition, in its order
abbrev pub accesses_at : Setting → ℕ → TxnId → List Access
accesses_at s p x = filter (λ a. partition_of a.key s.parts == p) (s.accesses x)

-- the message, from this node, fits those that it has handled
abbrev pub FitsRole : Role → ℕ → Msg → List Msg → Type 0
FitsRole r from m ms = Fits r.config r.work r.part from m ms

-- what it says on the last of its messages
abbrev pub said_by : Role → List Msg → List Mail
said_by r ms = says r.config r.work r.part ms

-- the rows that they leave
abbrev pub rows_of_role : Role → List Msg → Rows
rows_of_role r ms = rows_of_node r.config r.work r.part ms
