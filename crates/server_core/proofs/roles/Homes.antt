-- The homes of transactions, one id after another.
use Rattle.std.proofs.Common.{◌≡◌, ◌<◌, ◌≤◌, ◌+◌, ℕ, zero, suc, List, [], ◌∷◌, ◌++◌, length, get_or, take, Bool, cond, refl, ap, ◌∙◌, arith}
use Rattle.std.specs.List.{filter}
use Rattle.std.proofs.lemmas.List.Elements.{filter_more}
use Rattle.deneva_base.specs.Lists.{IsIn}
use Rattle.deneva_base.specs.Partitions.{partition_of}
use Rattle.deneva_base.specs.declared.keys.Access.{Access}
use Rattle.deneva_base.specs.declared.numbers.TxnId.{TxnId}
use Rattle.txn_program.specs.Serial.{all_ids, ids_from}
use Rattle.txn_program.specs.Transactions.{accesses, first_key, home_of}
use Rattle.txn_program.specs.declared.programs.Load.{Load}
use Rattle.txn_program.specs.declared.programs.Program.{Program}
use Rattle.txn_program.specs.declared.programs.Workload.{Workload}
use Rattle.txn_program.proofs.Ids.{id_for_each, id_from_between}
use Rattle.server_core.specs.Setting.{home_in}

-- the id at a place
abbrev pub id_of : ℕ → TxnId
id_of k = record { 0 = k + 1 }

from_at : (n : ℕ) (ps : List Program) (k : ℕ) (d : TxnId) → k < length ps → get_or (ids_from n ps) k d ≡ record { 0 = n + k }
from_at n [] k d less = absurd (omega (arith, less))
from_at n (p ∷ ps) zero d less = ap (λ (i : ℕ). record { 0 = i }) (omega arith)
from_at n (p ∷ ps) (suc k) d less = from_at (n + 1) ps k d (omega (arith, less)) ∙ ap (λ (i : ℕ). record { 0 = i }) (omega arith)

module _ (work : Workload) (k : ℕ) (less : k < length work.programs) where
  pub id_at : get_or (all_ids work) k (id_of k) ≡ id_of k
  id_at = from_at 1 work.programs k (id_of k) less ∙ ap (λ (i : ℕ). record { 0 = i }) (omega arith)

  pub is_id : IsIn (id_of k) (all_ids work)
  is_id = id_from_between work (id_of k) (omega arith) (omega (arith, less))

  -- what passes of one id more
  pub ids_more : (p : TxnId → Bool) → filter p (take (k + 1) (all_ids work)) ≡ filter p (take k (all_ids work)) ++ cond (p (id_of k)) (id_of k ∷ []) []
  ids_more p =
      filter_more p (all_ids work) k (id_of k) (omega (arith, less, id_for_each work))
      ∙ ap (λ (i : TxnId). filter p (take k (all_ids work)) ++ cond (p i) (i ∷ []) []) id_at

-- the home of a setting is that of the program
pub home_is : (load : Load) (program : Program) (parts : ℕ) → 1 ≤ parts → home_in parts (accesses load program) ≡ home_of load program parts
home_is load program parts some = go (accesses load program)
  where
    go : (list : List Access) → home_in parts list ≡ partition_of (first_key list) parts
    go [] = omega arith
    go (a ∷ list) = refl
