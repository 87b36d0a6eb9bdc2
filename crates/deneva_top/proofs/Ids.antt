-- The ids of a workload's transactions.
use Rattle.std.proofs.Common.{◌≡◌, ◌∙◌, ℕ, zero, suc, ◌+◌, ◌<◌, List, [], ◌∷◌, ◌++◌, length, drop, get_or, drop-cons, add-one, refl, ap, sym, append_assoc, arith}
use Rattle.std.specs.List.{All}
use Rattle.deneva_base.specs.declared.numbers.TxnId.{TxnId}
use Rattle.txn_program.specs.declared.programs.Program.{Program}
use Rattle.txn_program.specs.declared.programs.Program.TheVariants.{Ycsb}
use Rattle.txn_program.specs.declared.programs.Workload.{Workload}
use Rattle.txn_program.specs.Serial.{ids_from, all_ids}
use Rattle.deneva_top.specs.Executor.{IsKnown}

-- one id more
pub ids_more : (programs : List Program) (place : ℕ) (ids next all : List TxnId) → place < length programs → next ≡ ids ++ record { 0 = place + 1 } ∷ []
    → ids ++ ids_from (place + 1) (drop place programs) ≡ all → next ++ ids_from (place + 1 + 1) (drop (place + 1) programs) ≡ all
ids_more programs place ids next all inside e inv =
    let left : drop place programs ≡ get_or programs place (Ycsb []) ∷ drop (place + 1) programs = rw add-one (drop-cons programs place (Ycsb []) inside) in
    rw e (append_assoc ids (record { 0 = place + 1 } ∷ []) (ids_from (place + 1 + 1) (drop (place + 1) programs))
    ∙ ap (λ (l : List Program). ids ++ ids_from (place + 1) l) (sym left) ∙ inv)

length-ids_from : (n : ℕ) (programs : List Program) → length (ids_from n programs) ≡ length programs
length-ids_from n [] = refl
length-ids_from n (p ∷ programs) = let more = length-ids_from (n + 1) programs in omega (arith, more)

id_at : (n : ℕ) (programs : List Program) (k : ℕ) (d : TxnId) → k < length programs → (get_or (ids_from n programs) k d).0 ≡ n + k
id_at n [] k d h = absurd (omega (arith, h))
id_at n (p ∷ programs) zero d h = omega arith
id_at n (p ∷ programs) (suc k) d h =
    let inside : k < length programs = omega (arith, h) in
    let more = id_at (n + 1) programs k d inside in
    omega (arith, more)

-- each id is one of the workload
pub ids_known : (work : Workload) → All (IsKnown work) (all_ids work)
ids_known work k d h =
    let inside : k < length work.programs = rw (length-ids_from 1 work.programs) at h in
    let is = id_at 1 work.programs k d inside in
    (omega (arith, is), omega (arith, is, inside))
