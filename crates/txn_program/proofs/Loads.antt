-- What holds of the rows of a valid load.
use Rattle.std.proofs.Common.{◌≡◌, ◌≤◌, ℕ, List, [], ◌∷◌, Bool, true, ◌==◌, arith, inl, inr, pos, negsuc}
use Rattle.std.specs.Prelude.{nat_le, ⊤}
use Rattle.std.proofs.lemmas.Bool.{and_parts, and_from, eqb-true, le-leb, leb-true, ne_eqb, false≢true, cases_Bool}
use Rattle.deneva_base.specs.Lists.{IsIn}
use Rattle.deneva_base.specs.Rows.{Row}
use Rattle.deneva_base.specs.declared.keys.Key.{Key}
use Rattle.deneva_base.specs.declared.rows.Cell.{Cell}
use Rattle.deneva_base.specs.declared.rows.Cell.TheVariants.{Num, Text}
use Rattle.deneva_base.specs.declared.rows.Keyed.{Keyed}
use Rattle.tpcc_rules.specs.Columns.{number_64, fits, fits_all}
use Rattle.tpcc_rules.specs.declared.columns.Column.{Column}
use Rattle.tpcc_rules.specs.declared.columns.Column.TheVariants.{Between, UpTo}
use Rattle.tpcc_rules.specs.Tables.{columns, loaded_columns, is_loaded_row, is_table, is_table_row, rate}
use Rattle.txn_program.specs.declared.programs.Load.{Load}
use Rattle.txn_program.specs.declared.programs.WorkKind.{WorkKind}
use Rattle.txn_program.specs.declared.programs.WorkKind.TheVariants.{Ycsb, Tpcc}
use Rattle.txn_program.specs.Apart.{DistinctBy}
use Rattle.txn_program.specs.Valid.{are_valid_rows, is_load_of, is_row, is_tpcc_key, is_tpcc_row, is_valid_load, is_valid_row, is_warehouse, is_ycsb_key}
use Rattle.txn_program.specs.WellFormed.{is_well_formed}
use Rattle.txn_program.proofs.Members.{all_at}
use Rattle.txn_program.proofs.DistinctLists.{distinct_from_test}

-- a row of a table of TPC-C is well formed
pub table_row_fits : (load : Load) (key : Key) (row : Row) → is_table_row key row ≡ true → is_well_formed load key row ≡ true
table_row_fits load key row h =
    let some = leb-true 1 key.table (and_parts (nat_le 1 key.table) (nat_le key.table 8) (and_parts (is_table key.table) (fits_all (columns key.table) row) h).0).0 in
    rw (ne_eqb key.table 0 (λ e. omega (arith, e, some))) h

-- what fits one column fits the other
abbrev Widens : Column → Column → Type 0
Widens near far = (cell : Cell) → fits near cell ≡ true → fits far cell ≡ true

abbrev AllWiden : List Column → List Column → Type 0
AllWiden [] [] = ⊤
AllWiden [] (d ∷ ds) = ⊥
AllWiden (c ∷ cs) [] = ⊥
AllWiden (c ∷ cs) (d ∷ ds) = Widens c d × AllWiden cs ds

fits_wider : (near far : List Column) → AllWiden near far → (row : Row) → fits_all near row ≡ true → fits_all far row ≡ true
fits_wider [] [] w row h = h
fits_wider [] (d ∷ ds) w row h = absurd w
fits_wider (c ∷ cs) [] w row h = absurd w
fits_wider (c ∷ cs) (d ∷ ds) w [] h = absurd (false≢true h)
fits_wider (c ∷ cs) (d ∷ ds) w (cell ∷ row) h =
    let p = and_parts (fits c cell) (fits_all cs row) h in and_from _ _ (w.0 cell p.0) (fits_wider cs ds w.1 row p.1)

between_widens : (low near far : ℕ) → near ≤ far → Widens (Between (pos low) (pos near)) (Between (pos low) (pos far))
between_widens low near far less (Text text) h = absurd (false≢true h)
between_widens low near far less (Num (negsuc n)) h = absurd (false≢true h)
between_widens low near far less (Num (pos n)) h =
    let p = and_parts (nat_le low n) (nat_le n near) h in
    let below = leb-true n near p.1 in
    and_from _ _ p.0 (le-leb n far (omega (arith, below, less)))

-- the order number of a loaded district is one of a run
district_columns : ℕ → List Column
district_columns most = UpTo 10 ∷ rate ∷ number_64 ∷ Between (pos 1) (pos most) ∷ []

district_widens : (row : Row) → fits_all (district_columns 10000000) row ≡ true → fits_all (district_columns 200000000) row ≡ true
unfolding district_columns
district_widens row h =
    fits_wider (district_columns 10000000) (district_columns 200000000)
    (λ cell f. f, (λ cell f. f, (λ cell f. f, (between_widens 1 10000000 200000000 (omega arith), tt))))
    row h

columns_widen : (table : ℕ) (row : Row) → fits_all (loaded_columns table) row ≡ true → fits_all (columns table) row ≡ true
unfolding district_columns
columns_widen table row h = elim (cases_Bool (table == 1)) [
  | inl one ↦ rw one (rw one at h)
  | inr other ↦ elim (cases_Bool (table == 2)) [
    | inl two ↦
        rw (other, two) (district_widens row (rw (other, two) at h))
    | inr more ↦ rw (other, more) (rw (other, more) at h)
  ]
]

loaded_is_table_row : (key : Key) (row : Row) → is_loaded_row key row ≡ true → is_table_row key row ≡ true
loaded_is_table_row key row h =
    let p = and_parts (is_table key.table) (fits_all (loaded_columns key.table) row) h in and_from _ _ p.0 (columns_widen key.table row p.1)

tpcc_table : (key : Key) → is_tpcc_key key ≡ true → (1 ≤ key.table) × (key.table ≤ 4)
tpcc_table key h = elim (cases_Bool (key.table == 1)) [
  | inl one ↦ let e = eqb-true _ _ one in (omega (arith, e), omega (arith, e))
  | inr a ↦ elim (cases_Bool (key.table == 2)) [
    | inl two ↦ let e = eqb-true _ _ two in (omega (arith, e), omega (arith, e))
    | inr b ↦ elim (cases_Bool (key.table == 3)) [
      | inl three ↦ let e = eqb-true _ _ three in (omega (arith, e), omega (arith, e))
      | inr c ↦ elim (cases_Bool (key.table == 4)) [
        | inl four ↦ let e = eqb-true _ _ four in (omega (arith, e), omega (arith, e))
        | inr d ↦ absurd (false≢true (rw (a, b, c, d) at (and_parts (is_warehouse key.a) _ h).1))
      ]
    ]
  ]
]

-- the test that each row of a load passes, and what it tells
module _ (load : Load) where
  abbrev Tells : (Keyed → Bool) → Type 0
  Tells test = (r : Keyed) → test r ≡ true → (is_well_formed load r.key r.row ≡ true) × (r.key.table ≤ 4)

  rows_of_load : (k : WorkKind) → is_load_of k load ≡ true → (test : Keyed → Bool) × (are_valid_rows test load.rows ≡ true) × Tells test
  rows_of_load Ycsb h = (
    is_valid_row load.fields,
    (and_parts _ _ (and_parts _ _ h).0).1,
    λ r v.
        let table : (r.key.table == 0) ≡ true = (and_parts _ _ (and_parts _ _ (and_parts (is_ycsb_key r.key) (is_row load.fields r.row) v).0).0).0 in
        let zero = eqb-true _ _ table in
        (rw table (and_parts (is_ycsb_key r.key) (is_row load.fields r.row) v).1, omega (arith, zero)),
  )
  rows_of_load Tpcc h = (
    is_tpcc_row,
    (and_parts _ _ (and_parts _ _ (and_parts _ _ (and_parts _ _ h).0).0).0).1,
    λ r v.
        let p = and_parts (is_tpcc_key r.key) (is_loaded_row r.key r.row) v in
        let t = tpcc_table r.key p.0 in
        (table_row_fits load r.key r.row (loaded_is_table_row r.key r.row p.1), t.1),
  )

  module _ (valid : is_valid_load load ≡ true) where
    rows : (test : Keyed → Bool) × (are_valid_rows test load.rows ≡ true) × Tells test
    rows = rows_of_load load.kind valid

    pub distinct_rows : DistinctBy (λ (r : Keyed). r.key) load.rows
    distinct_rows = distinct_from_test (λ (r : Keyed). r.key) load.rows (and_parts _ _ rows.1).1

    module _ (r : Keyed) (there : IsIn r load.rows) where
      told : (is_well_formed load r.key r.row ≡ true) × (r.key.table ≤ 4)
      told = rows.2 r (all_at rows.0 r load.rows (and_parts _ _ (and_parts _ _ rows.1).0).1 there)

      pub row_table : r.key.table ≤ 4
      row_table = told.1

      pub row_well_formed : is_well_formed load r.key r.row ≡ true
      row_well_formed = told.0
