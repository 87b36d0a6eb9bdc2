-- The serial execution on a map of rows in key order is the one on rows by key.
use Rattle.std.proofs.Common.{◌≡◌, Bool, true, false, cond, List, [], ◌∷◌, ◌++◌, map, Option, Some, None, refl, sym, ap, ap₂, ◌∙◌, inl, inr, ⊎_elim}
use Rattle.std.specs.List.{flat_map}
use Rattle.deneva_base.specs.Lists.{IsIn}
use Rattle.deneva_base.specs.Modes.{reads}
use Rattle.deneva_base.specs.Rising.{keys_rise}
use Rattle.deneva_base.specs.Rows.{Row, Rows, row_of, row_at, row_or_empty, put, put_all, in_key_order, put_rows}
use Rattle.deneva_base.specs.declared.config.Config.{Config}
use Rattle.deneva_base.specs.declared.keys.Access.{Access}
use Rattle.deneva_base.specs.declared.keys.Key.{Key}
use Rattle.deneva_base.specs.declared.numbers.TxnId.{TxnId}
use Rattle.deneva_base.specs.declared.rows.Keyed.{Keyed}
use Rattle.deneva_base.proofs.PutRows.{keys_rise-put_all, put_all-append, row_of-put, row_of-member, row_of-none, row_at-row_of}
use Rattle.deneva_base.proofs.Membership.{key_tells}
use Rattle.txn_program.specs.Apart.{DistinctBy}
use Rattle.txn_program.specs.Serial.{reads_from, reads_of, effect_on, settled, map_after, turn, turns, last_map, serial}
use Rattle.txn_program.specs.Transactions.{reading}
use Rattle.tpcc_rules.specs.declared.effects.Effect.{Effect}
use Rattle.tpcc_rules.specs.declared.effects.Verdict.{Verdict}
use Rattle.tpcc_rules.specs.declared.effects.Verdict.TheVariants.{Commit, Rollback}
use Rattle.txn_program.specs.declared.programs.Workload.{Workload}
use Rattle.txn_program.specs.declared.serial.SerialTxn.{SerialTxn}
use Rattle.server_core.specs.Effects.{lasting, leaves}
use Rattle.server_core.specs.IsSerial.{ran}
use Rattle.server_core.specs.Outcome.{left_by, rows_of, last_rows}
use Rattle.server_core.specs.Setting.{Setting, setting}
use Rattle.server_core.specs.declared.outcomes.Decided.{Decided as Line}
use Rattle.server_core.proofs.serial.SerialWords.{read_from, run_one, leave, rows_after, serial as serial_by_key}

-- rows put on a map are found there as rows put by key
pub row_of-put_all : (rows ws : List Keyed) → row_of (put_all rows ws) ≡ put_rows (row_of rows) ws
row_of-put_all rows [] = refl
row_of-put_all rows (w ∷ ws) = row_of-put_all (put rows w) ws ∙ ap (λ m. put_rows m ws) (λ i k. row_of-put rows w k i)

abbrev or_else : Option Row → Option Row → Option Row
or_else None old = old
or_else (Some row) old = Some row

-- rows of different keys, put on a map, are found before what was there
put_first : (rows ws : List Keyed) (k : Key) → DistinctBy (λ (r : Keyed). r.key) ws → row_of (put_all rows ws) k ≡ or_else (row_of ws k) (row_of rows k)
put_first rows [] k d = refl
put_first rows (w ∷ ws) k d =
    put_first (put rows w) ws k d.1
    ∙ ap (or_else (row_of ws k)) (row_of-put rows w k)
    ∙ ⊎_elim
    (λ t. ap₂ (λ b o. or_else o (cond b (Some w.row) (row_of rows k))) t.0 (row_of-none ws k (λ r i e. d.0 r i (e ∙ sym t.1))) ∙ ap (λ b. or_else (cond b (Some w.row) (row_of ws k)) (row_of rows k)) (sym t.0))
    (λ t. rw t.0 refl)
    (key_tells w.key k)

-- so the loaded rows are found in key order as they are listed
pub row_of-in_key_order : (rows : List Keyed) → DistinctBy (λ (r : Keyed). r.key) rows → row_of (in_key_order rows) ≡ row_of rows
row_of-in_key_order rows d i k = (put_first [] rows k d ∙ nothing_else (row_of rows k)) i
  where
    nothing_else : (o : Option Row) → or_else o None ≡ o
    nothing_else None = refl
    nothing_else (Some row) = refl

-- what a list of accesses reads
reads_same : (rows : List Keyed) (list : List Access) → reads_from rows list ≡ read_from (row_of rows) list
reads_same rows [] = refl
reads_same rows (a ∷ list) = go (reads a.mode) (reads_same rows list)
  where
    go : (b : Bool) → reads_from rows list ≡ read_from (row_of rows) list → map (λ (a : Access). record { key = a.key; row = row_at rows a.key }) (cond b (a ∷ reading list) (reading list)) ≡ cond b (record { key = a.key; row = row_or_empty (row_of rows a.key) } ∷ read_from (row_of rows) list) (read_from (row_of rows) list)
    go true h = ap₂ (λ (row : Row) l. record { key = a.key; row = row } ∷ l) (row_at-row_of rows a.key) h
    go false h = h

-- what an effect leaves is put on the map
settled_is : (rows : List Keyed) (v : Verdict) (ws vs : List Keyed) → settled rows v ws vs ≡ put_all rows (lasting v ws ++ lasting v vs)
settled_is rows Commit ws vs = sym (put_all-append rows ws vs)
settled_is rows (Rollback reason) ws vs = refl

module _ (c : Config) (w : Workload) where
  abbrev s : Setting
  s = setting c w

  effect_same : (rows : List Keyed) (x : TxnId) → effect_on w rows x ≡ s.effect x (read_from (row_of rows) (s.accesses x))
  effect_same rows x = ap (s.effect x) (reads_same rows (s.accesses x))

  after_same : (rows : List Keyed) (x : TxnId) → row_of (map_after rows (effect_on w rows x)) ≡ leave s (row_of rows) x
  after_same rows x =
      ap row_of (settled_is rows (effect_on w rows x).verdict (effect_on w rows x).writes (effect_on w rows x).appends)
      ∙ row_of-put_all rows (leaves (effect_on w rows x))
      ∙ ap (λ (e : Effect). put_rows (row_of rows) (leaves e)) (effect_same rows x)

  turn_same : (rows : List Keyed) (x : TxnId) → turn w rows x ≡ run_one s (row_of rows) x
  turn_same rows x = ap (λ read. record { id = x; reads = read; verdict = (s.effect x read).verdict; answer = (s.effect x read).answer }) (reads_same rows (s.accesses x))

  turns_same : (rows : List Keyed) (xs : List TxnId) → turns w rows xs ≡ serial_by_key s (row_of rows) xs
  turns_same rows [] = refl
  turns_same rows (x ∷ xs) = ap₂ (λ t ts. t ∷ ts) (turn_same rows x) (turns_same (map_after rows (effect_on w rows x)) xs ∙ ap (λ m. serial_by_key s m xs) (after_same rows x))

  last_same : (rows : List Keyed) (xs : List TxnId) → row_of (last_map w rows xs) ≡ rows_after s (row_of rows) xs
  last_same rows [] = refl
  last_same rows (x ∷ xs) = last_same (map_after rows (effect_on w rows x)) xs ∙ ap (λ m. rows_after s m xs) (after_same rows x)

  -- the last map holds what the lines leave, where each reads at its turn what it read
  last_left : (rows : List Keyed) (ls : List Line) → turns w rows (map (λ l. l.number.id) ls) ≡ map ran ls → last_map w rows (map (λ l. l.number.id) ls) ≡ put_all rows (flat_map (left_by s) ls)
  last_left rows [] e = refl
  last_left rows (l ∷ ls) e =
      let first : turn w rows l.number.id ≡ ran l = cc in
      let rest : turns w (map_after rows (effect_on w rows l.number.id)) (map (λ (k : Line). k.number.id) ls) ≡ map ran ls = cc in
      let read : reads_of w rows l.number.id ≡ l.reads = ap (λ (t : SerialTxn). t.reads) first in
      let left : map_after rows (effect_on w rows l.number.id) ≡ put_all rows (left_by s l)
      = settled_is rows (effect_on w rows l.number.id).verdict (effect_on w rows l.number.id).writes (effect_on w rows l.number.id).appends ∙ ap (λ rs. put_all rows (leaves (s.effect l.number.id rs))) read in
      last_left (map_after rows (effect_on w rows l.number.id)) ls rest
      ∙ ap (λ m. put_all m (flat_map (left_by s) ls)) left
      ∙ sym (put_all-append rows (left_by s l) (flat_map (left_by s) ls))

  module _ (distinct : DistinctBy (λ (r : Keyed). r.key) w.load.rows) (ls : List Line) (runs : serial_by_key s s.loaded (map (λ l. l.number.id) ls) ≡ map ran ls) (rows : (key : Key) → rows_after s s.loaded (map (λ l. l.number.id) ls) key ≡ rows_of s ls key) where
    abbrev loaded : List Keyed
    loaded = in_key_order w.load.rows

    abbrev left : List Keyed
    left = put_all loaded (flat_map (left_by s) ls)

    turns_are : turns w loaded (map (λ l. l.number.id) ls) ≡ map ran ls
    turns_are = turns_same loaded (map (λ l. l.number.id) ls) ∙ ap (λ m. serial_by_key s m (map (λ l. l.number.id) ls)) (row_of-in_key_order w.load.rows distinct) ∙ runs

    map_left : last_map w loaded (map (λ l. l.number.id) ls) ≡ left
    map_left = last_left loaded ls turns_are

    found : (key : Key) → row_of left key ≡ rows_of s ls key
    found key =
        ap (λ (m : List Keyed). row_of m key) (sym map_left)
        ∙ ap (λ (m : Rows). m key) (last_same loaded (map (λ l. l.number.id) ls) ∙ ap (λ m. rows_after s m (map (λ l. l.number.id) ls)) (row_of-in_key_order w.load.rows distinct))
        ∙ rows key

    left_rises : keys_rise left ≡ true
    left_rises = keys_rise-put_all loaded (flat_map (left_by s) ls) (keys_rise-put_all [] w.load.rows refl)

    -- each row of the last map is the one that the outcome lists for its key
    listed_same : (rs : List Keyed) → ((r : Keyed) → IsIn r rs → IsIn r left) → map (λ r. record { key = r.key; row = row_or_empty (rows_of s ls r.key) }) rs ≡ rs
    listed_same [] into = refl
    listed_same (r ∷ rs) into =
        ap₂ (λ (row : Row) l. record { key = r.key; row = row } ∷ l)
        (ap row_or_empty (sym (found r.key) ∙ row_of-member left r left_rises (into r (inl refl))))
        (listed_same rs (λ q i. into q (inr i)))

    pub rows_listed : last_rows s w.load.rows ls ≡ left
    rows_listed = listed_same left (λ r i. i)

    -- the rows that an outcome lists, by their keys
    pub row_listed : (key : Key) → row_of (last_rows s w.load.rows ls) key ≡ rows_of s ls key
    row_listed key = ap (λ (m : List Keyed). row_of m key) rows_listed ∙ found key

    pub serial_listed : serial w (map (λ l. l.number.id) ls) ≡ record { runs = map ran ls; rows = last_rows s w.load.rows ls }
    serial_listed = λ i. record { runs = turns_are i; rows = (map_left ∙ sym rows_listed) i }
