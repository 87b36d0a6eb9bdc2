-- What the executor is asked for.
use Rattle.std.specs.Prelude.{◌≤◌, length}
use Rattle.deneva_base.specs.declared.numbers.TxnId.{TxnId}
use Rattle.txn_program.specs.declared.programs.Workload.{Workload}

-- the workload has a transaction of this id
abbrev pub IsKnown : Workload → TxnId → Type 0
IsKnown work id = (1 ≤ id.0) × (id.0 ≤ length work.programs)
