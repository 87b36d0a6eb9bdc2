-- The transactions of a workload, by their ids.
use Rattle.std.specs.Prelude.{ℕ, List}
use Rattle.deneva_base.specs.declared.keys.Access.{Access}
use Rattle.deneva_base.specs.declared.rows.Keyed.{Keyed}
use Rattle.deneva_base.specs.declared.numbers.TxnId.{TxnId}
use Rattle.txn_program.specs.declared.programs.Workload.{Workload}
use Rattle.tpcc_rules.specs.declared.effects.Effect.{Effect}
use Rattle.txn_program.specs.Serial.{program_of}
use Rattle.txn_program.specs.Transactions.{accesses, effect, home_of, participants}

abbrev pub accesses_in : Workload → TxnId → List Access
accesses_in work id = accesses work.load (program_of work id)

abbrev pub effect_in : Workload → TxnId → List Keyed → Effect
effect_in work id rows = effect work.load id (program_of work id) rows

abbrev pub home_in : Workload → TxnId → ℕ → ℕ
home_in work id parts = home_of work.load (program_of work id) parts

abbrev pub participants_in : Workload → TxnId → ℕ → List ℕ
participants_in work id parts = participants work.load (program_of work id) parts
