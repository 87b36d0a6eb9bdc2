-- The rows of one partition.
use Rattle.std.proofs.Common.{◌≡◌, ◌≢◌, ◌≤◌, ℕ, List, [], ◌∷◌, map, Bool, true, false, cond, eqb, refl, sym, ap, ◌∙◌, inl, inr, ⊎_elim, Option, Some, None}
use Rattle.std.specs.List.{AllByRecursion, IsDistinct}
use Rattle.deneva_base.specs.declared.keys.Key.{Key}
use Rattle.deneva_base.specs.declared.rows.Keyed.{Keyed}
use Rattle.deneva_base.specs.Keys.{key_eq}
use Rattle.deneva_base.specs.Lists.{IsIn}
use Rattle.deneva_base.specs.Partitions.{partition_of}
use Rattle.deneva_base.specs.Rows.{Row, row_of}
use Rattle.deneva_base.proofs.Membership.{filter_in, key_tells}
use Rattle.txn_program.specs.Apart.{DistinctBy}
use Rattle.txn_program.specs.Valid.{IsValid}
use Rattle.txn_program.specs.declared.programs.Workload.{Workload}
use Rattle.txn_program.proofs.WorkloadLaws.{distinct_loaded, loaded_table}
use Rattle.server_core.specs.Coordinator.{at_part}

abbrev AreApart : List Keyed → Type 0
AreApart rows = IsDistinct key_eq (map (λ r. r.key) rows)

module _ (parts part : ℕ) where
  is_here : Keyed → Bool
  is_here r = eqb (partition_of r.key parts) part

  apart_from : (r : Keyed) (xs : List Keyed) → ((y : Keyed) → IsIn y xs → y.key ≢ r.key) → AllByRecursion (λ k. key_eq r.key k ≡ false) (map (λ (x : Keyed). x.key) xs)
  apart_from r [] h = tt
  apart_from r (x ∷ xs) h = (⊎_elim (λ t. absurd (h x (inl refl) (sym t.1))) (λ f. f.0) (key_tells r.key x.key), apart_from r xs (λ y i. h y (inr i)))

  -- rows of distinct keys are distinct at one partition
  pub distinct_here : (rows : List Keyed) → DistinctBy (λ (r : Keyed). r.key) rows → AreApart (at_part parts part rows)
  unfolding IsDistinct
  distinct_here [] d = tt
  distinct_here (r ∷ rows) d = go (eqb (partition_of r.key parts) part) (distinct_here rows d.1)
    where
      go : (b : Bool) → AreApart (at_part parts part rows) → AreApart (cond b (r ∷ at_part parts part rows) (at_part parts part rows))
      go true h = (apart_from r (at_part parts part rows) (λ y i. d.0 y (filter_in (λ (x : Keyed). eqb (partition_of x.key parts) part) y rows i).0), h)
      go false h = h

  -- a key's row at the partition
  pub row_here : (rows : List Keyed) (key : Key) → row_of (at_part parts part rows) key ≡ cond (eqb (partition_of key parts) part) (row_of rows key) None
  row_here [] key = either (eqb (partition_of key parts) part)
    where
      either : (b : Bool) → ◌≡◌ {A = Option Row} None (cond b None None)
      either true = refl
      either false = refl
  row_here (r ∷ rows) key =
      ⊎_elim
      (λ t. same (eqb (partition_of r.key parts) part) (ap (λ (k : Key). eqb (partition_of k parts) part) t.1) t.0 (row_here rows key))
      (λ f. other (eqb (partition_of r.key parts) part) (eqb (partition_of key parts) part) f.0 (row_here rows key))
      (key_tells r.key key)
    where
      same : (b : Bool) → b ≡ eqb (partition_of key parts) part → key_eq r.key key ≡ true → row_of (at_part parts part rows) key ≡ cond (eqb (partition_of key parts) part) (row_of rows key) None → row_of (cond b (r ∷ at_part parts part rows) (at_part parts part rows)) key ≡ cond (eqb (partition_of key parts) part) (cond (key_eq r.key key) (Some r.row) (row_of rows key)) None
      same true e q h = rw (q, sym e) refl
      same false e q h = h ∙ rw (sym e) refl

      other : (b d : Bool) → key_eq r.key key ≡ false → row_of (at_part parts part rows) key ≡ cond d (row_of rows key) None → row_of (cond b (r ∷ at_part parts part rows) (at_part parts part rows)) key ≡ cond d (cond (key_eq r.key key) (Some r.row) (row_of rows key)) None
      other true d q h = rw q h
      other false d q h = rw q h

module _ (w : Workload) (valid : IsValid w) (parts part : ℕ) where
  pub distinct_at : IsDistinct key_eq (map (λ (r : Keyed). r.key) (at_part parts part w.load.rows))
  distinct_at = distinct_here parts part w.load.rows (distinct_loaded w valid)

  pub table_at : (r : Keyed) → IsIn r (at_part parts part w.load.rows) → r.key.table ≤ 4
  table_at r i = loaded_table w valid r (filter_in (λ (x : Keyed). eqb (partition_of x.key parts) part) r w.load.rows i).0
