-- The lines of the serial execution in the global order rise, replay, and leave its rows.
use Rattle.std.proofs.Common.{◌≡◌, List, [], ◌∷◌, length, map, Bool, true, false, cond, refl, sym, ap, ap₂, ◌∙◌, subst, subst₂, inl, inr, ⊎_elim}
use Rattle.std.proofs.lemmas.List.{length-map}
use Rattle.protocol_rules.specs.Conditions.{Distinct}
use Rattle.deneva_base.specs.Keys.{NumberLt}
use Rattle.protocol_rules.specs.Leaving.{row_or}
use Rattle.deneva_base.specs.Lists.{IsIn}
use Rattle.deneva_base.specs.Modes.{reads}
use Rattle.deneva_base.specs.Rows.{Row, Rows, row_or_empty, put_rows}
use Rattle.deneva_base.specs.declared.keys.Access.{Access}
use Rattle.deneva_base.specs.declared.keys.Key.{Key}
use Rattle.deneva_base.specs.declared.numbers.TxnId.{TxnId}
use Rattle.deneva_base.specs.declared.rows.Keyed.{Keyed}
use Rattle.deneva_base.proofs.Membership.{in_cases, in_map, in_map_from}
use Rattle.txn_program.specs.Transactions.{reading}
use Rattle.txn_program.specs.declared.serial.SerialTxn.{SerialTxn}
use Rattle.server_core.specs.CalvinProper.{Valid}
use Rattle.server_core.specs.CalvinSerial.{RisingIds, read_at, reads_on, serial_step, serial_after, serial_lines}
use Rattle.server_core.specs.Effects.{leaves, written, appended}
use Rattle.server_core.specs.GlobalOrder.{order, number}
use Rattle.server_core.specs.GlobalOutcome.{ordered_line}
use Rattle.server_core.specs.IsSerial.{ran, Rises}
use Rattle.server_core.specs.Lines.{decided_as}
use Rattle.server_core.specs.Outcome.{rows_of}
use Rattle.server_core.specs.Setting.{Setting}
use Rattle.server_core.specs.declared.outcomes.Decided.{Decided as Line}
use Rattle.calvin_laws.proofs.order.OrderNumbers.{rising}
use Rattle.calvin_laws.proofs.order.Orders.{order_in}
use Rattle.server_core.proofs.serial.GreatestWrites.{tops}
use Rattle.server_core.proofs.serial.SerialWords.{read_from, leave, serial, rows_after, Txn, after, Rising, Wrote, IsLast, txn_of}
use Rattle.server_core.proofs.serial.Serials.{is_last}

read_same : (rows : Rows) (list : List Access) → read_from rows list ≡ read_at rows (reading list)
read_same rows [] = refl
read_same rows (a ∷ list) = go (reads a.mode) (read_same rows list)
  where
    go : (b : Bool) → read_from rows list ≡ read_at rows (reading list) → cond b (record { key = a.key; row = row_or_empty (rows a.key) } ∷ read_from rows list) (read_from rows list) ≡ read_at rows (cond b (a ∷ reading list) (reading list))
    go true h = ap (λ l. record { key = a.key; row = row_or_empty (rows a.key) } ∷ l) h
    go false h = h

-- rows of different keys
one_of : (ws : List Keyed) (key : Key) (x y : Row) → Distinct ws → IsIn (record { key = key; row = x }) ws → IsIn (record { key = key; row = y }) ws → x ≡ y
one_of [] key x y d i j = absurd i
one_of (w ∷ ws) key x y d i j =
    ⊎_elim
    (λ (a : record { key = key; row = x } ≡ w).
    ⊎_elim
    (λ (b : record { key = key; row = y } ≡ w). ap (λ (z : Keyed). z.row) (a ∙ sym b))
    (λ k. absurd (d.0 (record { key = key; row = y }) k (ap (λ (z : Keyed). z.key) a)))
    j)
    (λ k. ⊎_elim
    (λ (b : record { key = key; row = y } ≡ w). absurd (d.0 (record { key = key; row = x }) k (ap (λ (z : Keyed). z.key) b)))
    (λ m. one_of ws key x y d.1 k m)
    j)
    i

module _ (s : Setting) where
  leave_same : (rows : Rows) (x : TxnId) → leave s rows x ≡ serial_step s rows x
  leave_same rows x = ap (λ rs. put_rows rows (leaves (s.effect x rs))) (read_same rows (s.accesses x))

  pub runs_same : (rows : Rows) (xs : List TxnId) → serial s rows xs ≡ map ran (serial_lines s rows xs)
  runs_same rows [] = refl
  runs_same rows (x ∷ xs) =
      let turn : List Keyed → SerialTxn = λ rs. record { id = x; reads = rs; verdict = (s.effect x rs).verdict; answer = (s.effect x rs).answer } in
      ap₂ (λ t ts. t ∷ ts) (ap turn (read_same rows (s.accesses x))) (ap (λ m. serial s m xs) (leave_same rows x) ∙ runs_same (serial_step s rows x) xs)

  pub after_same : (rows : Rows) (xs : List TxnId) → rows_after s rows xs ≡ serial_after s rows xs
  after_same rows [] = refl
  after_same rows (x ∷ xs) = ap (λ m. rows_after s m xs) (leave_same rows x) ∙ after_same (serial_step s rows x) xs

  pub ids_back : (rows : Rows) (xs : List TxnId) → map (λ (l : Line). l.number.id) (serial_lines s rows xs) ≡ xs
  ids_back rows [] = refl
  ids_back rows (x ∷ xs) = ap (λ l. x ∷ l) (ids_back (serial_step s rows x) xs)

  -- a line is what its transaction did at its turn, with its number
  pub lines_back : (rows : Rows) (xs : List TxnId) → map (ordered_line s) (map ran (serial_lines s rows xs)) ≡ serial_lines s rows xs
  lines_back rows [] = refl
  lines_back rows (x ∷ xs) = ap (λ l. decided_as s x (number s x).n (reads_on s rows x) ∷ l) (lines_back (serial_step s rows x) xs)

  pub numbers_are : (rows : Rows) (xs : List TxnId) → map (λ (l : Line). l.number) (serial_lines s rows xs) ≡ map (number s) xs
  numbers_are rows [] = refl
  numbers_are rows (x ∷ xs) = ap (λ l. number s x ∷ l) (numbers_are (serial_step s rows x) xs)

  left_same : (rows : Rows) (xs : List TxnId) → after rows (map (txn_of s) (serial_lines s rows xs)) ≡ serial_after s rows xs
  left_same rows [] = refl
  left_same rows (x ∷ xs) = left_same (serial_step s rows x) xs

  -- a line is that of a transaction on some rows
  pub record OfOne (xs : List TxnId) (l : Line) : Type 0 where
    pub id : TxnId
    pub rows : Rows
    pub there : IsIn id xs
    pub is : l ≡ decided_as s id (number s id).n (reads_on s rows id)

  pub line_of_one : (rows : Rows) (xs : List TxnId) (l : Line) → IsIn l (serial_lines s rows xs) → OfOne xs l
  line_of_one rows [] l i = absurd i
  line_of_one rows (x ∷ xs) l i =
      ⊎_elim
      (λ e. record { id = x; rows = rows; there = inl refl; is = e })
      (λ j. let o = line_of_one (serial_step s rows x) xs l j in record { id = o.id; rows = o.rows; there = inr o.there; is = o.is })
      i

  pub rises : (rows : Rows) (xs : List TxnId) → RisingIds s xs → Rises (serial_lines s rows xs)
  rises rows [] r = tt
  rises rows (x ∷ xs) r = (
    (λ k i. let o = line_of_one (serial_step s rows x) xs k i in subst (λ (z : Line). NumberLt (number s x) z.number) (sym o.is) (r.0 o.id o.there)),
    rises (serial_step s rows x) xs r.1,
  )

  rising_txns : (ls : List Line) → Rises ls → Rising (map (txn_of s) ls)
  rising_txns [] r = tt
  rising_txns (l ∷ ls) r = ((λ u i. let k = in_map_from (txn_of s) u ls i in subst (λ (z : Txn). NumberLt l.number z.number) (sym k.2) (r.0 k.0 k.1)), rising_txns ls r.1)

  module _ (v : Valid s) (writes : (x : TxnId) (rows : List Keyed) → Distinct (written (s.effect x rows))) (appends : (x : TxnId) (rows : List Keyed) → Distinct (appended (s.effect x rows))) where
    -- what a transaction leaves has one row for each key
    one_left : (x : TxnId) (rows : List Keyed) → IsIn x s.ids → length rows ≡ length (reading (s.accesses x)) → (key : Key) (a b : Row) → IsIn (record { key = key; row = a }) (leaves (s.effect x rows)) → IsIn (record { key = key; row = b }) (leaves (s.effect x rows)) → a ≡ b
    one_left x rows i e key a b j k =
        ⊎_elim
        (λ ja. ⊎_elim (λ ka. one_of (written (s.effect x rows)) key a b (writes x rows) ja ka) (λ kb. absurd (apart a b ja kb)) (in_cases _ (written (s.effect x rows)) (appended (s.effect x rows)) k))
        (λ jb. ⊎_elim (λ ka. absurd (apart b a ka jb)) (λ kb. one_of (appended (s.effect x rows)) key a b (appends x rows) jb kb) (in_cases _ (written (s.effect x rows)) (appended (s.effect x rows)) k))
        (in_cases _ (written (s.effect x rows)) (appended (s.effect x rows)) j)
      where
        apart : (c d : Row) → IsIn (record { key = key; row = c }) (written (s.effect x rows)) → IsIn (record { key = key; row = d }) (appended (s.effect x rows)) → ⊥
        apart c d m n = let w = v.writes x rows (record { key = key; row = c }) i e m in (v.appends x rows (record { key = key; row = d }) i e n).1 x w.0 i w.1 w.2

    abbrev lines : List Line
    lines = serial_lines s s.loaded (order s)

    pub lines_rise : Rises lines
    lines_rise = rises s.loaded (order s) (rising s v)

    one_wrote : (t : Txn) (key : Key) (a b : Row) → IsIn t (map (txn_of s) lines) → Wrote t key a → Wrote t key b → a ≡ b
    one_wrote t key a b i wa wb =
        let k = in_map_from (txn_of s) t lines i in
        let o = line_of_one s.loaded (order s) k.0 k.1 in
        let is : t ≡ txn_of s (decided_as s o.id (number s o.id).n (reads_on s o.rows o.id)) = k.2 ∙ ap (txn_of s) o.is in
        one_left o.id (reads_on s o.rows o.id) (order_in s o.id o.there) (length-map (reading (s.accesses o.id)) (λ c. record { key = c.key; row = row_or_empty (o.rows c.key) })) key a b (subst (λ (z : Txn). Wrote z key a) is wa) (subst (λ (z : Txn). Wrote z key b) is wb)

    last : IsLast s.loaded (after s.loaded (map (txn_of s) lines)) (map (txn_of s) lines)
    last = is_last s.loaded (map (txn_of s) lines) (rising_txns lines lines_rise) one_wrote

    -- for each key the row of the greatest number is the last that was put
    pub rows_are : (key : Key) → serial_after s s.loaded (order s) key ≡ rows_of s lines key
    rows_are key =
        ap (λ (m : Rows). m key) (sym (left_same s.loaded (order s)))
        ∙ ⊎_elim
        (λ n. last.untouched key (λ u x i w. let l = in_map_from (txn_of s) u lines i in n.1 l.0 x l.1 (subst (λ (z : Txn). Wrote z key x) l.2 w)) ∙ sym (ap (row_or (s.loaded key)) n.0))
        (λ t.
        last.written (txn_of s t.1.line) key t.0.row (in_map (txn_of s) t.1.line lines t.1.here) t.1.wrote
        (λ u x i w lt. let l = in_map_from (txn_of s) u lines i in t.1.most l.0 x l.1 (subst (λ (z : Txn). Wrote z key x) l.2 w) (subst₂ NumberLt t.1.number (ap (λ (z : Txn). z.number) l.2) lt))
        ∙ sym (ap (row_or (s.loaded key)) t.1.is))
        (tops s key lines)
