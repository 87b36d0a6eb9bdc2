-- Each transaction is decided at all its participants or at none.
use Rattle.std.specs.Prelude.{List}
use Rattle.deneva_base.specs.Lists.{IsIn}
use Rattle.deneva_base.specs.declared.config.Config.{Config}
use Rattle.deneva_base.specs.declared.numbers.TxnId.{TxnId}
use Rattle.txn_program.specs.declared.programs.Workload.{Workload}
use Rattle.server_core.specs.Family.{family}
use Rattle.server_core.specs.Setting.{setting}
use Rattle.server_core.specs.declared.messages.Entry.{Entry}

abbrev pub IsAtomic : Config → Workload → List Entry → Type 0
IsAtomic c w H = (x : TxnId) → IsIn x (setting c w).ids → (family c.protocol).whole (setting c w) H x
