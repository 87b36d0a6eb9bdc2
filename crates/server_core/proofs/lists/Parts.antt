-- The partitions of keys and of accesses are partitions that there are.
use Rattle.deneva_base.specs.declared.numbers.TxnId.{TxnId}
use Rattle.std.proofs.Common.{Option, None, ◌≢◌, ap, [], ◌≡◌, ℕ, zero, suc, ◌+◌, ◌-◌, ◌%◌, ◌<◌, ◌≤◌, List, [], ◌∷◌, Bool, true, false, cond, ◌||◌, eqb, refl, subst, inl, ⊎_elim, arith}
use Rattle.std.specs.List.{list_any}
use Rattle.std.proofs.lemmas.Bool.Decides.{nat_tests, eqb_tells}
use Rattle.deneva_base.specs.declared.keys.Key.{Key}
use Rattle.deneva_base.specs.Lists.{IsIn}
use Rattle.deneva_base.proofs.Membership.{in_left, in_right, in_filter, filter_in, any_found, key_tells}
use Rattle.server_core.specs.Setting.{Setting, home, home_in, partitions_of}
use Rattle.deneva_base.specs.declared.keys.Access.{Access}
use Rattle.txn_program.specs.Transactions.{numbers_below}
use Rattle.deneva_base.specs.Partitions.{partition_of}
use Rattle.server_core.specs.Proper.{keys_in}

-- the partition of a key is among the partitions of accesses that have it
pub in_below : (n m : ℕ) → n < m → IsIn n (numbers_below m)
in_below n zero h = absurd (omega arith)
in_below n (suc m) h = ⊎_elim (λ t. in_right n (numbers_below m) (m ∷ []) (inl t.1)) (λ t. in_left n (numbers_below m) (m ∷ []) (in_below n m (omega (arith, t.1)))) (eqb_tells n m)

pub part_below : (k : Key) (parts : ℕ) → 1 ≤ parts → partition_of k parts < parts
part_below k parts h = go (eqb k.table 0)
  where
    go : (b : Bool) → cond b (k.a % parts) ((k.a - 1) % parts) < parts
    go true = omega arith
    go false = omega arith

pub parts_in : (parts : ℕ) (key : Key) (as' : List Access) → 1 ≤ parts → 1 ≤ keys_in key as' → IsIn (partition_of key parts) (partitions_of parts as')
parts_in parts key as' one h =
    in_filter (λ p. list_any (λ (x : Access). eqb (partition_of x.key parts) p) as') (partition_of key parts) (numbers_below parts) (in_below (partition_of key parts) parts (part_below key parts one)) (any as' h)
  where
    same : (n : ℕ) → eqb n n ≡ true
    same n = grind (arith, nat_tests)

    any : (xs : List Access) → 1 ≤ keys_in key xs → list_any (λ (x : Access). eqb (partition_of x.key parts) (partition_of key parts)) xs ≡ true
    any [] h = absurd (omega arith)
    any (a ∷ xs) h =
        ⊎_elim
        (λ t. let e : eqb (partition_of a.key parts) (partition_of key parts) ≡ true = subst (λ k. eqb (partition_of a.key parts) (partition_of k parts) ≡ true) t.1 (same (partition_of a.key parts)) in rw e)
        (λ t. let h' : 1 ≤ 0 + keys_in key xs = subst (λ b. 1 ≤ cond b 1 0 + keys_in key xs) t.0 h in later (eqb (partition_of a.key parts) (partition_of key parts)) (any xs (omega (arith, h'))))
        (key_tells a.key key)
      where
        later : (a : Bool) {b : Bool} → b ≡ true → (a || b) ≡ true
        later true e = refl
        later false e = e

pub parts_from : (parts q : ℕ) (as' : List Access) → IsIn q (partitions_of parts as') → (a : Access) × IsIn a as' × (partition_of a.key parts ≡ q)
parts_from parts q as' i =
    let f = filter_in (λ p. list_any (λ (x : Access). eqb (partition_of x.key parts) p) as') q (numbers_below parts) i in
    let a = any_found (λ (x : Access). eqb (partition_of x.key parts) q) as' f.1 in
    (a.0, a.1, eqb_is (partition_of a.0.key parts) q a.2)
  where
    eqb_is : (a b : ℕ) → eqb a b ≡ true → a ≡ b
    eqb_is a b e = grind (arith, nat_tests)

-- each transaction's home is a partition that there is
pub home_below : (s : Setting) → 1 ≤ s.parts → (x : TxnId) → home s x < s.parts
home_below s one x = go (s.accesses x)
  where
    go : (as' : List Access) → home_in s.parts as' < s.parts
    go [] = one
    go (c ∷ as') = part_below c.key s.parts one

-- what lies at another partition only is not found here
pub off : {A : Type 0} (parts p : ℕ) (o : Option A) (key : Key) → partition_of key parts ≢ p → cond (eqb (partition_of key parts) p) o None ≡ None
off parts p o key ne = ⊎_elim (λ t. absurd (ne t.1)) (λ t. ap (λ b. cond b o None) t.0) (eqb_tells (partition_of key parts) p)
