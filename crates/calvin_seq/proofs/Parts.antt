-- How many participants a transaction has.
use Rattle.std.proofs.Common.{◌≡◌, ◌≤◌, ◌+◌, ◌-◌, ◌==◌, ℕ, [], List, length, get_or, slice_get, Some, ap, ◌∙◌, arith}
use Rattle.std.specs.List.{list_any}
use Rattle.std.proofs.lemmas.Option.{get_or_from_slice_get}
use Rattle.deneva_base.specs.Partitions.{partition_of}
use Rattle.deneva_base.specs.declared.config.Config.{Config}
use Rattle.deneva_base.specs.declared.keys.Access.{Access}
use Rattle.txn_program.specs.Serial.{program_of}
use Rattle.txn_program.specs.Transactions.{accesses, partitions_of, numbers_below}
use Rattle.txn_program.specs.declared.programs.Program.{Program}
use Rattle.txn_program.specs.declared.programs.Program.TheVariants.{Ycsb}
use Rattle.txn_program.specs.declared.programs.Workload.{Workload}
use Rattle.server_core.specs.Setting.{setting, participants_for}
use Rattle.server_core.proofs.lists.ListTests.{below_length}
use Rattle.calvin_seq.proofs.Counts.{few_pass}
use Rattle.server_core.proofs.roles.Homes.{id_of}

-- no more than there are partitions
pub few_parts : (parts : ℕ) (list : List Access) → length (partitions_of parts list) ≤ parts
few_parts parts list = omega (arith, few_pass (λ p. list_any (λ (a : Access). partition_of a.key parts == p) list) (numbers_below parts), below_length parts)

-- those of the transaction at a place
pub parts_at : (work : Workload) (k : ℕ) (program : Program) → slice_get work.programs k ≡ Some program → (c : Config) (parts : ℕ) → c.parts ≡ parts → participants_for (setting c work) (id_of k) ≡ partitions_of parts (accesses work.load program)
parts_at work k program got c parts same =
    let back : k + 1 - 1 ≡ k = omega arith in
    let here : program_of work (id_of k) ≡ program = ap (λ (i : ℕ). get_or work.programs i (Ycsb [])) back ∙ get_or_from_slice_get work.programs k program (Ycsb []) got in
    ap (λ (p : Program). partitions_of c.parts (accesses work.load p)) here ∙ ap (λ (n : ℕ). partitions_of n (accesses work.load program)) same
