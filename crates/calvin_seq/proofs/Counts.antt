-- The index of a transaction is how many of its node stand before it.
use Rattle.std.proofs.Common.{◌≡◌, ◌<◌, ◌≤◌, ◌+◌, ℕ, zero, suc, List, [], ◌∷◌, ◌++◌, length, slice_get, Some, take, Bool, true, false, cond, eqb, max, refl, sym, ap, ◌∙◌, subst, ⊎_elim, arith}
use Rattle.std.specs.List.{filter}
use Rattle.deneva_base.specs.Keys.{id_eq}
use Rattle.deneva_base.specs.Lists.{greatest_by}
use Rattle.deneva_base.specs.declared.config.Config.{Config}
use Rattle.deneva_base.specs.declared.numbers.TxnId.{TxnId}
use Rattle.txn_program.specs.Serial.{all_ids, ids_from}
use Rattle.txn_program.specs.Transactions.{home_of, numbers_below}
use Rattle.txn_program.specs.Valid.{IsValid}
use Rattle.txn_program.specs.declared.programs.Program.{Program}
use Rattle.txn_program.specs.declared.programs.Workload.{Workload}
use Rattle.txn_program.proofs.Ids.{few_ids}
use Rattle.server_core.specs.GlobalOrder.{eights, epochs, index_of, number, number_at}
use Rattle.server_core.specs.Setting.{Setting, setting, home, homes}
use Rattle.server_core.proofs.lists.ListTests.{id_tells, id_self, same_number}
use Rattle.server_core.proofs.roles.Homes.{id_of}
use Rattle.calvin_seq.proofs.Places.{homes_until, home_at}

-- with one element more in front
index_cons : (p : TxnId → Bool) (x y : TxnId) (xs ys : List TxnId) → id_eq y x ≡ false → index_of x (filter p xs) ≡ length (filter p ys) → index_of x (filter p (y ∷ xs)) ≡ length (filter p (y ∷ ys))
index_cons p x y xs ys other rest = go (p y)
  where
    go : (b : Bool) → index_of x (cond b (y ∷ filter p xs) (filter p xs)) ≡ length (cond b (y ∷ filter p ys) (filter p ys))
    go true = rw other (ap suc rest)
    go false = rest

-- with ids that count from n
index_from : (n : ℕ) (ps : List Program) (p : TxnId → Bool) (x : TxnId) (k : ℕ) → x ≡ record { 0 = n + k } → k < length ps → p x ≡ true → index_of x (filter p (ids_from n ps)) ≡ length (filter p (take k (ids_from n ps)))
index_from n [] p x k is less passes = absurd (omega (arith, less))
index_from n (q ∷ ps) p x zero is less passes =
    let first : x ≡ record { 0 = n } = is ∙ ap (λ (i : ℕ). record { 0 = i }) (omega arith) in
    let here : p (record { 0 = n }) ≡ true = subst (λ y. p y ≡ true) first passes in
    let same : id_eq (record { 0 = n }) x ≡ true = subst (λ y. id_eq y x ≡ true) first (id_self x) in
    rw here (rw same refl)
index_from n (q ∷ ps) p x (suc k) is less passes =
    let other : id_eq (record { 0 = n }) x ≡ false =
    ⊎_elim
    (λ t. let same : n ≡ n + suc k = ap (λ (y : TxnId). y.0) (t.1 ∙ is) in absurd (omega (arith, same)))
    (λ t. t.0)
    (id_tells (record { 0 = n }) x)
    in
    index_cons p x (record { 0 = n }) (ids_from (n + 1) ps) (take k (ids_from (n + 1) ps)) other
    (index_from (n + 1) ps p x k (is ∙ ap (λ (i : ℕ). record { 0 = i }) (omega arith)) (omega (arith, less)) passes)

-- the number of a transaction by its node and how many of that stand before it
pub number_is : (work : Workload) (k : ℕ) → k < length work.programs → (program : Program) → slice_get work.programs k ≡ Some program → (c : Config) (parts : ℕ) → c.parts ≡ parts → 1 ≤ parts → (q j : ℕ) → q ≡ home_of work.load program parts → j ≡ length (homes_until (setting c work) q k) → number_at (setting c work) (id_of k) q j ≡ number (setting c work) (id_of k)
number_is work k less program got c parts same some q j at counted =
    let s : Setting = setting c work in
    let there : q ≡ home s (id_of k) = at ∙ sym (home_at work k less program got c parts same some) in
    let index : index_of (id_of k) (homes s (home s (id_of k))) ≡ length (homes_until s (home s (id_of k)) k)
    = index_from 1 work.programs (λ x. eqb (home s x) (home s (id_of k))) (id_of k) k (ap (λ (i : ℕ). record { 0 = i }) (omega arith)) less (same_number (home s (id_of k))) in
    ap (number_at s (id_of k) q) (counted ∙ ap (λ r. length (homes_until s r k)) there ∙ sym index)
    ∙ ap (λ r. number_at s (id_of k) r (index_of (id_of k) (homes s (home s (id_of k))))) there

-- at most as many pass as there are
pub few_pass : {A : Type 0} (p : A → Bool) (xs : List A) → length (filter p xs) ≤ length xs
few_pass p [] = omega arith
few_pass p (x ∷ xs) = go (p x) (few_pass p xs)
  where
    go : (b : Bool) → length (filter p xs) ≤ length xs → length (cond b (x ∷ filter p xs) (filter p xs)) ≤ suc (length xs)
    go true less = omega (arith, less)
    go false less = omega (arith, less)

-- the greatest of one more
pub greatest_more : (f : ℕ → ℕ) (xs : List ℕ) (n : ℕ) → greatest_by f (xs ++ n ∷ []) ≡ max (greatest_by f xs) (f n)
greatest_more f [] n = omega arith
greatest_more f (x ∷ xs) n = omega (arith, greatest_more f xs n)

-- the greatest of the nodes below n + 1
pub greatest_below : (f : ℕ → ℕ) (n : ℕ) → greatest_by f (numbers_below (n + 1)) ≡ max (greatest_by f (numbers_below n)) (f n)
greatest_below f n = let next : n + 1 ≡ suc n = omega arith in rw next (greatest_more f (numbers_below n) n)

few_greatest : (f : ℕ → ℕ) (most : ℕ) (xs : List ℕ) → ((x : ℕ) → f x ≤ most) → greatest_by f xs ≤ most
few_greatest f most [] h = omega arith
few_greatest f most (x ∷ xs) h = omega (arith, h x, few_greatest f most xs h)

-- there are few epochs
pub few_epochs : (c : Config) (work : Workload) → IsValid work → epochs (setting c work) ≤ 10000
few_epochs c work valid =
    few_greatest (λ q. eights (length (homes (setting c work) q))) 10000 (numbers_below c.parts)
    (λ q. let few : length (homes (setting c work) q) ≤ length (all_ids work) = few_pass (λ x. eqb (home (setting c work) x) q) (all_ids work) in omega (arith, few, few_ids work valid))
