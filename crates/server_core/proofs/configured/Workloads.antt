-- What every valid workload gives runs: its ids, its accesses, its loaded rows, and what its transactions leave.
use Rattle.std.proofs.Common.{◌≡◌, ◌≤◌, List, [], ◌∷◌, length, Bool, true, false, ◌||◌, Some, ℕ, refl, sym, ap, inl, inr, arith, cond}
use Rattle.std.specs.Prelude.{if◌then◌else◌}
use Rattle.std.proofs.lemmas.Bool.{true≢false}
use Rattle.std.proofs.lemmas.Option.{same_Some, none-some}
use Rattle.protocol_rules.specs.Conditions.{Distinct}
use Rattle.deneva_base.specs.Keys.{key_eq}
use Rattle.deneva_base.specs.Lists.{IsIn}
use Rattle.deneva_base.specs.Modes.{reads, IsWriting}
use Rattle.deneva_base.specs.Partitions.{partition_of}
use Rattle.deneva_base.specs.Rows.{Row, row_of, has_key}
use Rattle.deneva_base.specs.declared.config.Config.{Config}
use Rattle.deneva_base.specs.declared.keys.Access.{Access}
use Rattle.deneva_base.specs.declared.keys.Key.{Key}
use Rattle.deneva_base.specs.declared.keys.Mode.{Mode}
use Rattle.deneva_base.specs.declared.keys.Mode.TheVariants.{Read, Update, Put}
use Rattle.deneva_base.specs.declared.numbers.TxnId.{TxnId}
use Rattle.deneva_base.specs.declared.rows.Keyed.{Keyed}
use Rattle.deneva_base.proofs.KeyOrder.{Decides-key_eq}
use Rattle.txn_program.specs.InWorkload.{accesses_in, effect_in}
use Rattle.txn_program.specs.Serial.{all_ids}
use Rattle.txn_program.specs.Valid.{IsValid}
use Rattle.txn_program.specs.WellFormed.{is_well_formed, FitReads}
use Rattle.tpcc_rules.specs.declared.effects.Verdict.{Verdict}
use Rattle.tpcc_rules.specs.declared.effects.Verdict.TheVariants.{Commit, Rollback}
use Rattle.txn_program.specs.declared.programs.Workload.{Workload}
use Rattle.txn_program.proofs.ReadRows.{fits_with_read, fits_with_put}
use Rattle.txn_program.proofs.WorkloadLaws as law
use Rattle.server_core.specs.Coordinator.{reads_of, effect_of}
use Rattle.server_core.specs.Effects.{lasting, written, appended}
use Rattle.server_core.specs.Proper.{FineReplies, ids_in, keys_in}
use Rattle.server_core.specs.Received.{Reply}
use Rattle.server_core.specs.Setting.{setting, partitions_of}

-- the row of a key is one of the rows
pub found : (key : Key) (row : Row) (rows : List Keyed) → row_of rows key ≡ Some row → IsIn (record { key = key; row = row }) rows
found key row [] e = absurd (none-some row e)
found key row (r ∷ rows) e = go (key_eq r.key key) refl e (found key row rows)
  where
    go : (b : Bool) → key_eq r.key key ≡ b → (if b then Some r.row else row_of rows key) ≡ Some row → (row_of rows key ≡ Some row → IsIn (record { key = key; row = row }) rows) → IsIn (record { key = key; row = row }) (r ∷ rows)
    go true q e next = inl (λ i. record { key = sym ((Decides-key_eq r.key key).0 q) i; row = sym (same_Some _ _ e) i })
    go false q e next = inr (next e)

-- a key that some row has stands for a row
pub there : (key : Key) (rows : List Keyed) → has_key rows key ≡ true → (row : Row) × (row_of rows key ≡ Some row)
there key [] h = absurd (true≢false (sym h))
there key (r ∷ rows) h = go (key_eq r.key key) h (there key rows)
  where
    go : (b : Bool) → (b || has_key rows key) ≡ true → (has_key rows key ≡ true → (row : Row) × (row_of rows key ≡ Some row)) → (row : Row) × ((if b then Some r.row else row_of rows key) ≡ Some row)
    go true h next = (r.row, refl)
    go false h next = next h

-- what an effect leaves, it lists
pub lasts : (v : Verdict) (rows : List Keyed) (w : Keyed) → IsIn w (lasting v rows) → IsIn w rows
lasts Commit rows w i = i
lasts (Rollback reason) rows w i = absurd i

pub distinct_lasting : (v : Verdict) (rows : List Keyed) → Distinct rows → Distinct (lasting v rows)
distinct_lasting Commit rows d = d
distinct_lasting (Rollback reason) rows d = tt

module _ (c : Config) (w : Workload) (v : IsValid w) where
  -- well formed replies to all accesses give rows that these accesses can read
  pub fit : (list : List Access) (rs : List Reply) → length rs ≡ length list → FineReplies (setting c w) list rs → FitReads w.load list (reads_of list rs)
  fit [] rs e f = (refl, refl)
  fit (a ∷ list) [] e f = absurd (omega arith)
  fit (a ∷ list) (r ∷ rs) e f = go a.mode refl (fit list rs (omega arith) f.1)
    where
      go : (m : Mode) → a.mode ≡ m → FitReads w.load list (reads_of list rs) → FitReads w.load (a ∷ list) (cond (reads m) (record { key = a.key; row = r.row } ∷ reads_of list rs) (reads_of list rs))
      go Read q more = fits_with_read w.load a list r.row _ (ap reads q) (f.0 (λ p. absurd (cc (q, p)))) more
      go Update q more = fits_with_read w.load a list r.row _ (ap reads q) (f.0 (λ p. absurd (cc (q, p)))) more
      go Put q more = fits_with_put w.load a list _ (ap reads q) more

  pub once : (x : TxnId) → ids_in x (all_ids w) ≤ 1
  once = law.id_once w v

  pub keys : (x : TxnId) (key : Key) → keys_in key (accesses_in w x) ≤ 1
  keys = law.key_once w v

  pub loads : (x : TxnId) (a : Access) → IsIn a (accesses_in w x) → (row : Row) × (row_of w.load.rows a.key ≡ Some row)
  loads x a i = there a.key w.load.rows (law.access_loaded w v x a i)

  pub fine : (key : Key) (row : Row) → row_of w.load.rows key ≡ Some row → is_well_formed w.load key row ≡ true
  fine key row e = law.loaded_well_formed w v _ (found key row w.load.rows e)

  module _ (x : TxnId) (rows : List Keyed) where
    pub writes : (r : Keyed) → IsIn r (written (effect_in w x rows)) → (mode : Mode) × IsWriting mode × IsIn (record { key = r.key; mode = mode }) (accesses_in w x)
    writes r i = law.written_mode w v x rows r (lasts (effect_in w x rows).verdict _ r i)

    pub distinct : Distinct (written (effect_in w x rows))
    distinct = distinct_lasting (effect_in w x rows).verdict _ (law.distinct_writes w v x rows)

    pub distinct_appends : Distinct (appended (effect_in w x rows))
    distinct_appends = distinct_lasting (effect_in w x rows).verdict _ (law.distinct_appends w v x rows)

    pub appends : (parts : ℕ) → 1 ≤ parts → (r : Keyed) → IsIn r (appended (effect_in w x rows)) → (5 ≤ r.key.table) × (r.key.table ≤ 8) × IsIn (partition_of r.key parts) (partitions_of parts (accesses_in w x))
    appends parts some r i =
        let listed = lasts (effect_in w x rows).verdict _ r i in
        let tables = law.append_table w v x rows r listed in
        (tables.0, tables.1, law.append_at_participant w v x rows r parts some listed)

  module _ (x : TxnId) (rs : List Reply) (r : Keyed) (every : length rs ≡ length (accesses_in w x)) (good : FineReplies (setting c w) (accesses_in w x) rs) where
    pub effects : IsIn r (written (effect_of (setting c w) x rs)) → is_well_formed w.load r.key r.row ≡ true
    effects i = law.written_well_formed w v x _ r (fit (accesses_in w x) rs every good) (lasts (effect_of (setting c w) x rs).verdict _ r i)

    pub fine_appends : IsIn r (appended (effect_of (setting c w) x rs)) → is_well_formed w.load r.key r.row ≡ true
    fine_appends i = law.appended_well_formed w v x _ r (fit (accesses_in w x) rs every good) (lasts (effect_of (setting c w) x rs).verdict _ r i)
