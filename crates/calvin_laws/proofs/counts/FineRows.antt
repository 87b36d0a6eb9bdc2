-- What serial execution reads is well formed.
use Rattle.std.proofs.Common.{◌≡◌, ◌≢◌, ℕ, List, [], ◌∷◌, map, true, false, refl, sym, ap, subst, inl, inr, ⊎_elim, Some}
use Rattle.std.proofs.lemmas.List.{length-map}
use Rattle.deneva_base.specs.declared.numbers.TxnId.{TxnId}
use Rattle.deneva_base.specs.Lists.{IsIn}
use Rattle.deneva_base.specs.Rows.{Row, Rows as Table, put_row, put_rows, row_or_empty}
use Rattle.deneva_base.specs.Keys.{key_eq}
use Rattle.deneva_base.specs.declared.rows.Keyed.{Keyed}
use Rattle.deneva_base.proofs.Membership.{key_tells, filter_in, in_map_from}
use Rattle.deneva_base.specs.declared.keys.Access.{Access}
use Rattle.server_core.specs.Setting.{Setting}
use Rattle.deneva_base.specs.Modes.{reads}
use Rattle.server_core.specs.CalvinSerial.{read_at, reads_on, serial_step, serial_after, rows_before, serial_part}
use Rattle.txn_program.specs.Transactions.{reading}
use Rattle.server_core.specs.CalvinScheduler.{reading_at}
use Rattle.server_core.specs.Effects.{leaves}
use Rattle.server_core.specs.GlobalOrder.{order, before}
use Rattle.server_core.specs.CalvinProper.{Valid, Forms}
use Rattle.server_core.specs.CalvinFits.{all_fine, RowsFor}
use Rattle.server_core.proofs.lists.ListTests.{all_from}
use Rattle.calvin_laws.proofs.order.Orders.{order_in, before_in}
use Rattle.server_core.proofs.lists.RowFolds.{change_cases}

module _ (s : Setting) (v : Valid s) (f : Forms s) where
  -- the rows of all accesses are there and well formed
  abbrev Formed : Table → Type 0
  Formed rows = (x : TxnId) (a : Access) → IsIn x s.ids → IsIn a (s.accesses x) → (r : Row) × (rows a.key ≡ Some r) × (s.fine a.key r ≡ true)

  write_formed : (rows : Table) (ws : List Keyed) → Formed rows → ((x : TxnId) (a : Access) (w : Keyed) → IsIn x s.ids → IsIn a (s.accesses x) → IsIn w ws → w.key ≡ a.key → s.fine w.key w.row ≡ true) → Formed (put_rows rows ws)
  write_formed rows [] g h = g
  write_formed rows (w ∷ ws) g h =
      write_formed (put_row rows w) ws
      (λ x a i j. ⊎_elim
      (λ (t : (key_eq w.key a.key ≡ true) × (w.key ≡ a.key)). (w.row, rw t.0 refl, subst (λ k. s.fine k w.row ≡ true) t.1 (h x a w i j (inl refl) t.1)))
      (λ (t : (key_eq w.key a.key ≡ false) × (w.key ≢ a.key)). let n = g x a i j in (n.0, rw t.0 n.1, n.2))
      (key_tells w.key a.key))
      (λ x a u i j k. h x a u i j (inr k))

  keyed_formed : (rows : Table) (x : TxnId) (as' : List Access) → IsIn x s.ids → Formed rows → ((a : Access) → IsIn a as' → IsIn a (s.accesses x)) → all_fine s (read_at rows as') ≡ true
  keyed_formed rows x as' i g h =
      all_from (λ w. s.fine w.key w.row) (read_at rows as')
      (λ w j.
      let m = in_map_from (λ a. record { key = a.key; row = row_or_empty (rows a.key) }) w as' j in
      let n = g x m.0 i (h m.0 m.1) in
      subst (λ (z : Keyed). s.fine z.key z.row ≡ true) (sym m.2) (subst (λ o. s.fine m.0.key (row_or_empty o) ≡ true) (sym n.1) n.2))

  pub just_keys : (rows : Table) (as' : List Access) → map (λ (k : Keyed). k.key) (read_at rows as') ≡ map (λ a. a.key) as'
  just_keys rows [] = refl
  just_keys rows (a ∷ as') = ap (λ l. a.key ∷ l) (just_keys rows as')

  step_formed : (rows : Table) (x : TxnId) → IsIn x s.ids → Formed rows → Formed (serial_step s rows x)
  step_formed rows x i g =
      write_formed rows (leaves (s.effect x (reads_on s rows x))) g
      (λ y a w iy ia iw e.
      ⊎_elim
      (λ c. f.effects x (read_at rows (reading (s.accesses x))) w i (just_keys rows (reading (s.accesses x)))
      (keyed_formed rows x (reading (s.accesses x)) i g (λ b j. (filter_in (λ d. reads d.mode) b (s.accesses x) j).0))
      c)
      (λ c. absurd ((v.appends x (reads_on s rows x) w i (length-map (reading (s.accesses x)) (λ a. record { key = a.key; row = row_or_empty (rows a.key) })) c).1 y a iy ia (sym e)))
      (change_cases (s.effect x (reads_on s rows x)) w iw))

  after_formed : (rows : Table) (xs : List TxnId) → ((x : TxnId) → IsIn x xs → IsIn x s.ids) → Formed rows → Formed (serial_after s rows xs)
  after_formed rows [] h g = g
  after_formed rows (x ∷ xs) h g = after_formed (serial_step s rows x) xs (λ y i. h y (inr i)) (step_formed rows x (h x (inl refl)) g)

  pub part_formed : (x : TxnId) (q : ℕ) → IsIn x s.ids → RowsFor s x q (serial_part s q x)
  part_formed x q i = (
    just_keys (rows_before s x) (reading_at s q x),
    keyed_formed (rows_before s x) x (reading_at s q x) i
        (after_formed s.loaded (before x (order s)) (λ y j. order_in s y (before_in x y (order s) j)) f.loads)
        (λ a j. (filter_in (λ d. reads d.mode) a (s.accesses x) (filter_in (λ b. _) a (reading (s.accesses x)) j).0).0),
  )
