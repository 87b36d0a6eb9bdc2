-- The homes of the first transactions of a workload.
use Rattle.std.proofs.Common.{◌≡◌, ◌<◌, ◌≤◌, ◌+◌, ◌-◌, ℕ, List, [], ◌∷◌, ◌++◌, length, get_or, slice_get, Some, take, eqb, true, cond, ap, ◌∙◌, subst, arith}
use Rattle.std.specs.List.{filter}
use Rattle.std.proofs.lemmas.List.{take_all}
use Rattle.std.proofs.lemmas.Option.{get_or_from_slice_get}
use Rattle.deneva_base.specs.declared.config.Config.{Config}
use Rattle.deneva_base.specs.declared.numbers.TxnId.{TxnId}
use Rattle.txn_program.specs.Serial.{all_ids, program_of}
use Rattle.txn_program.specs.Transactions.{accesses, home_of}
use Rattle.txn_program.specs.Valid.{IsValid, is_valid_program}
use Rattle.txn_program.specs.declared.programs.Program.{Program}
use Rattle.txn_program.specs.declared.programs.Program.TheVariants.{Ycsb}
use Rattle.txn_program.specs.declared.programs.Workload.{Workload}
use Rattle.txn_program.proofs.Ids.{id_for_each}
use Rattle.txn_program.proofs.ValidPrograms.{valid_program}
use Rattle.server_core.specs.Setting.{Setting, setting, home, homes, home_in}
use Rattle.server_core.proofs.roles.Homes.{id_of, home_is, ids_more}

-- each program is valid
pub valid_at : (work : Workload) → IsValid work → (k : ℕ) → k < length work.programs → (program : Program) → slice_get work.programs k ≡ Some program → is_valid_program work.load program ≡ true
valid_at work valid k less program got =
    subst (λ (p : Program). is_valid_program work.load p ≡ true) (get_or_from_slice_get work.programs k program (Ycsb []) got) (valid_program work valid k (Ycsb []) less)

-- the homes of a node among the first k transactions
abbrev pub homes_until : Setting → ℕ → ℕ → List TxnId
homes_until s q k = filter (λ x. eqb (home s x) q) (take k s.ids)

pub all_homes : (c : Config) (work : Workload) (q k : ℕ) → k ≡ length work.programs → homes_until (setting c work) q k ≡ homes (setting c work) q
all_homes c work q k all = ap (filter (λ x. eqb (home (setting c work) x) q)) (take_all k (all_ids work) (omega (arith, all, id_for_each work)))

module _ (work : Workload) (k : ℕ) (less : k < length work.programs) (program : Program) (got : slice_get work.programs k ≡ Some program) (c : Config) (parts : ℕ) (same : c.parts ≡ parts) (some : 1 ≤ parts) where
  pub home_at : home (setting c work) (id_of k) ≡ home_of work.load program parts
  home_at =
      let back : k + 1 - 1 ≡ k = omega arith in
      let here : program_of work (id_of k) ≡ program = ap (λ (i : ℕ). get_or work.programs i (Ycsb [])) back ∙ get_or_from_slice_get work.programs k program (Ycsb []) got in
      ap (λ (p : Program). home_in c.parts (accesses work.load p)) here
      ∙ ap (λ (n : ℕ). home_in n (accesses work.load program)) same
      ∙ home_is work.load program parts some

  -- and among one more
  pub more_homes : (q : ℕ) → homes_until (setting c work) q (k + 1) ≡ homes_until (setting c work) q k ++ cond (eqb (home_of work.load program parts) q) (id_of k ∷ []) []
  more_homes q =
      ids_more work k less (λ x. eqb (home (setting c work) x) q)
      ∙ ap (λ (n : ℕ). homes_until (setting c work) q k ++ cond (eqb n q) (id_of k ∷ []) []) home_at
