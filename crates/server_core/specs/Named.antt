-- Each abort that an outcome lists names what was found in the history of that partition at that step.
use Rattle.std.specs.Prelude.{List}
use Rattle.deneva_base.specs.Lists.{IsIn}
use Rattle.deneva_base.specs.declared.config.Config.{Config}
use Rattle.txn_program.specs.declared.programs.Workload.{Workload}
use Rattle.server_core.specs.Family.{family}
use Rattle.server_core.specs.Setting.{setting}
use Rattle.server_core.specs.declared.messages.Entry.{Entry}
use Rattle.server_core.specs.declared.outcomes.AbortLine.{AbortLine}
use Rattle.server_core.specs.declared.outcomes.Outcome.{Outcome}

abbrev pub AllNamed : Config → Workload → List Entry → Outcome → Type 0
AllNamed c w H o = (l : AbortLine) → IsIn l o.aborts → (family c.protocol).named (setting c w) H l
