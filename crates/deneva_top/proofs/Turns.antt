-- A transaction's turn on the map, from the parts in which it is done.
use Rattle.std.proofs.Common.{◌≡◌, ◌∙◌, List, ap}
use Rattle.deneva_base.specs.declared.keys.Access.{Access}
use Rattle.deneva_base.specs.declared.numbers.TxnId.{TxnId}
use Rattle.deneva_base.specs.declared.rows.Keyed.{Keyed}
use Rattle.tpcc_rules.specs.declared.effects.Effect.{Effect}
use Rattle.txn_program.specs.declared.programs.Program.{Program}
use Rattle.txn_program.specs.declared.programs.Workload.{Workload}
use Rattle.txn_program.specs.Serial.{program_of, reads_from, reads_of, effect_on}
use Rattle.txn_program.specs.Transactions.{accesses, effect}

-- what was read, and the effect on it, are those of the turn
pub at_turn : (work : Workload) (rows : List Keyed) (id : TxnId) (program : Program) (list : List Access) (reads : List Keyed) (e : Effect)
    → program ≡ program_of work id → list ≡ accesses work.load program → reads ≡ reads_from rows list → e ≡ effect work.load id program reads
    → (reads ≡ reads_of work rows id) × (e ≡ effect_on work rows id)
at_turn work rows id program list reads e p l r h =
    let known : list ≡ accesses work.load (program_of work id) = l ∙ ap (λ (q : Program). accesses work.load q) p in
    let read : reads ≡ reads_of work rows id = r ∙ ap (λ (all : List Access). reads_from rows all) known in
    (read, h ∙ (λ i. effect work.load id (p i) (read i)))
