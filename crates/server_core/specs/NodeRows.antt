-- The rows of a node.
use Rattle.std.specs.Prelude.{ℕ, List}
use Rattle.deneva_base.specs.Rows.{Rows}
use Rattle.deneva_base.specs.declared.config.Config.{Config}
use Rattle.txn_program.specs.declared.programs.Workload.{Workload}
use Rattle.server_core.specs.Family.{family}
use Rattle.server_core.specs.Setting.{setting}
use Rattle.server_core.specs.declared.messages.Msg.{Msg}

-- the rows of node p after these messages, which are listed with the newest first
abbrev pub rows_of_node : Config → Workload → ℕ → List Msg → Rows
rows_of_node c w p ms = (family c.protocol).rows (setting c w) p ms
