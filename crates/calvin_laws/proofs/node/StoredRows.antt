-- The rows at a node are those of the greatest numbers, and one more finished transaction writes what it changes.
use Rattle.std.proofs.Common.{◌≡◌, ◌⊎◌, ◌≤◌, ℕ, List, [], ◌∷◌, ◌++◌, filter, map, Bool, true, false, cond, ◌&&◌, ◌||◌, eqb, refl, sym, ap, ◌∙◌, subst, inl, inr, ⊎_elim, arith, Some}
use Rattle.std.specs.List.{list_any, list_all}
use Rattle.deneva_base.specs.declared.keys.Key.{Key}
use Rattle.deneva_base.specs.declared.numbers.TxnId.{TxnId}
use Rattle.deneva_base.specs.declared.numbers.Number.{Number}
use Rattle.deneva_base.specs.Lists.{IsIn}
use Rattle.deneva_base.specs.Rows.{Row, Rows as Table, put_row, put_rows, row_at}
use Rattle.deneva_base.specs.Keys.{NumberLt, key_eq, id_eq}
use Rattle.deneva_base.specs.declared.rows.Keyed.{Keyed}
use Rattle.deneva_base.proofs.Membership.{key_tells, in_right, any_at, any_found, filter_in}
use Rattle.server_core.specs.declared.messages.Msg.{Msg}
use Rattle.server_core.specs.declared.messages.Msg.TheVariants.{Rows}
use Rattle.deneva_base.specs.Partitions.{partition_of}
use Rattle.server_core.specs.Coordinator.{at_part}
use Rattle.deneva_base.specs.declared.keys.Access.{Access}
use Rattle.server_core.specs.Setting.{Setting, participants_for}
use Rattle.deneva_base.specs.Modes.{writes}
use Rattle.server_core.specs.CalvinScheduler.{clash, changed, has_rows, rows_from, is_finished, collected, applied, now}
use Rattle.txn_program.specs.Transactions.{reading}
use Rattle.server_core.specs.Effects.{leaves}
use Rattle.server_core.specs.GlobalOrder.{order, before, number}
use Rattle.server_core.specs.CalvinProper.{Valid}
use Rattle.server_core.specs.Proper.{ids_in}
use Rattle.calvin_laws.proofs.serial.SerialTurns.{Owned, writer, own_ready, in_part, clash_there, collected_length}
use Rattle.server_core.specs.GreatestRows.{IsGreatest}
use Rattle.server_core.proofs.lists.ListTests.{or_left, not_both, is_or_not, id_tells}
use Rattle.calvin_laws.proofs.order.Orders.{order_once, order_in, in_order, split_at, before_split}
use Rattle.calvin_laws.proofs.order.OrderNumbers.{before_is}
use Rattle.server_core.proofs.lists.RowFolds.{write_none, changed-append, filter-append, changed_none}

-- the last row written to the key stands, whatever was there
write_one : (rows : Table) (ws : List Keyed) (k : Key) (row : Row) → IsIn (record { key = k; row = row }) ws → ((other : Row) → IsIn (record { key = k; row = other }) ws → other ≡ row) → put_rows rows ws k ≡ Some row
write_one rows [] k row i one = absurd i
write_one rows (w ∷ ws) k row i one = go (list_any (λ u. key_eq u.key k) ws) refl (λ h. write_one (put_row rows w) ws k row h (λ other o. one other (inr o)))
  where
    is_key : (u : Keyed) → key_eq u.key k ≡ true → u.key ≡ k
    is_key u e = ⊎_elim (λ t. t.1) (λ t. absurd (not_both (key_eq u.key k) e t.0)) (key_tells u.key k)

    self : (u : Keyed) → u.key ≡ k → key_eq u.key k ≡ true
    self u e = ⊎_elim (λ t. t.0) (λ t. absurd (t.1 e)) (key_tells u.key k)

    go : (b : Bool) → list_any (λ (u : Keyed). key_eq u.key k) ws ≡ b → (IsIn (record { key = k; row = row }) ws → put_rows (put_row rows w) ws k ≡ Some row) → put_rows (put_row rows w) ws k ≡ Some row
    go true e next =
        let u = any_found (λ (u : Keyed). key_eq u.key k) ws e in
        let there : IsIn (record { key = k; row = u.0.row }) ws = let is : u.0 ≡ record { key = k; row = u.0.row } = λ c. record { key = is_key u.0 u.2 c; row = u.0.row } in subst (λ z. IsIn z ws) is u.1 in
        next (subst (λ r. IsIn (record { key = k; row = r }) ws) (one u.0.row (inr there)) there)
    go false e next =
        ⊎_elim
        (λ (is : record { key = k; row = row } ≡ w).
        let same : w.key ≡ k = ap (λ (z : Keyed). z.key) (sym is) in
        write_none (put_row rows w) ws k (λ u j h. not_both (list_any (λ (z : Keyed). key_eq z.key k) ws) (any_at (λ (z : Keyed). key_eq z.key k) u ws j (self u h)) e)
        ∙ ap (λ b. cond b (Some w.row) (rows k)) (self w same)
        ∙ ap (λ (z : Keyed). Some z.row) (sym is))
        (λ r. absurd (not_both (list_any (λ (z : Keyed). key_eq z.key k) ws) (any_at (λ (z : Keyed). key_eq z.key k) (record { key = k; row = row }) ws r (self (record { key = k; row = row }) refl)) e))
        i

pub write_same : (r1 r2 : Table) (ws : List Keyed) (k : Key) → r1 k ≡ r2 k → put_rows r1 ws k ≡ put_rows r2 ws k
write_same r1 r2 [] k e = e
write_same r1 r2 (w ∷ ws) k e = write_same (put_row r1 w) (put_row r2 w) ws k (ap (λ o. cond (key_eq w.key k) (Some w.row) o) e)

changed_cong : (f : TxnId → List Keyed) (r1 r2 : Table) (xs : List TxnId) (k : Key) → r1 k ≡ r2 k → changed f r1 xs k ≡ changed f r2 xs k
changed_cong f r1 r2 [] k e = e
changed_cong f r1 r2 (x ∷ xs) k e = changed_cong f (put_rows r1 (f x)) (put_rows r2 (f x)) xs k (write_same r1 r2 (f x) k e)

changed_both : (f g : TxnId → List Keyed) (a b : TxnId → Bool) (rows : Table) (xs : List TxnId) → ((x : TxnId) → IsIn x xs → (a x ≡ b x) × (b x ≡ true → f x ≡ g x)) → changed f rows (filter a xs) ≡ changed g rows (filter b xs)
changed_both f g a b rows [] h = refl
changed_both f g a b rows (x ∷ xs) h =
    let n = h x (inl refl) in
    ap (λ c. changed f rows (cond c (x ∷ filter a xs) (filter a xs))) n.0
    ∙ go (b x) refl (λ r. changed_both f g a b r xs (λ y i. h y (inr i))) n.1
  where
    go : (c : Bool) → b x ≡ c → ((r : Table) → changed f r (filter a xs) ≡ changed g r (filter b xs)) → (b x ≡ true → f x ≡ g x) → changed f rows (cond (b x) (x ∷ filter a xs) (filter a xs)) ≡ changed g rows (cond (b x) (x ∷ filter b xs) (filter b xs))
    go true e next same = rw e (next (put_rows rows (f x)) ∙ ap (λ ws. changed g (put_rows rows ws) (filter b xs)) (same e))
    go false e next same = rw e (next rows)

module _ (s : Setting) (v : Valid s) (p : ℕ) (ms : List Msg) where
  ids_of : (pre : List TxnId) (x : TxnId) (post : List TxnId) → order s ≡ pre ++ x ∷ post → (y : TxnId) → IsIn y (x ∷ post) → IsIn y s.ids
  ids_of pre x post e y j = order_in s y (subst (λ l. IsIn y l) (sym e) (in_right y pre (x ∷ post) j))

  -- those after x have greater numbers
  greater : (pre : List TxnId) (x : TxnId) (post : List TxnId) → order s ≡ pre ++ x ∷ post → (y : TxnId) → IsIn y post → NumberLt (number s x) (number s y)
  greater pre x post e y j =
      let sp = split_at y post j in
      let whole : order s ≡ (pre ++ x ∷ sp.0) ++ y ∷ sp.1 = e ∙ ap (λ l. pre ++ x ∷ l) sp.2 ∙ rejoin pre x sp.0 (y ∷ sp.1) in
      let there : before y (order s) ≡ pre ++ x ∷ sp.0 = ap (before y) whole ∙ before_split y (pre ++ x ∷ sp.0) sp.1 (subst (λ l. ids_in y l ≤ 1) whole (order_once s v y)) in
      ((before_is s v y x (ids_of pre x post e y (inr j))).0 (subst (λ l. IsIn x l) (sym there) (in_right x pre (x ∷ sp.0) (inl refl)))).1
    where
      rejoin : (pre : List TxnId) (x : TxnId) (as' bs : List TxnId) → pre ++ x ∷ (as' ++ bs) ≡ (pre ++ x ∷ as') ++ bs
      rejoin [] x as' bs = refl
      rejoin (z ∷ pre) x as' bs = ap (λ l. z ∷ l) (rejoin pre x as' bs)

  as_keyed : (w : Keyed) (k : Key) (ws : List Keyed) → w.key ≡ k → IsIn w ws → IsIn (record { key = k; row = w.row }) ws
  as_keyed w k ws e i = let is : w ≡ record { key = k; row = w.row } = λ j. record { key = e j; row = w.row } in subst (λ z. IsIn z ws) is i

  pub greatest_rows : IsGreatest s p ms (now s p ms)
  greatest_rows = record {
    written = λ x k row i f c one last.
        let sp = split_at x (order s) (in_order s v x i) in
        let pre : List TxnId = sp.0 in
        let post : List TxnId = sp.1 in
        let rows : Table = changed (applied s p ms) s.loaded (filter (is_finished s ms) pre) in
        ap (λ l. changed (applied s p ms) s.loaded (filter (is_finished s ms) l) k) sp.2
        ∙ ap (λ l. changed (applied s p ms) s.loaded l k) (filter-append (is_finished s ms) pre (x ∷ post))
        ∙ ap (λ (t : Table). t k) (changed-append (applied s p ms) s.loaded (filter (is_finished s ms) pre) (filter (is_finished s ms) (x ∷ post)))
        ∙ ap (λ b. changed (applied s p ms) rows (cond b (x ∷ filter (is_finished s ms) post) (filter (is_finished s ms) post)) k) f
        ∙ changed_none (applied s p ms) (put_rows rows (applied s p ms x)) (filter (is_finished s ms) post) k
        (λ y w j iw is. let g = filter_in (is_finished s ms) y post j in last y w.row (ids_of pre x post sp.2 y (inr g.0)) g.1 (as_keyed w k (applied s p ms y) is iw) (greater pre x post sp.2 y g.0))
        ∙ write_one rows (applied s p ms x) k row c one;
    untouched = λ k h.
        changed_none (applied s p ms) s.loaded (filter (is_finished s ms) (order s)) k
        (λ x w i iw is. let g = filter_in (is_finished s ms) x (order s) i in h x w.row (order_in s x g.0) g.1 (as_keyed w k (applied s p ms x) is iw));
  }

  -- one more is finished here
  module _ (own : Owned s p ms) (x : TxnId) (q : ℕ) (rows : List Keyed) (now_done : is_finished s (Rows x q rows ∷ ms) x ≡ true) (not_yet : is_finished s ms x ≡ false) where
    abbrev ms' : List Msg
    ms' = Rows x q rows ∷ ms

    other_finished : (y : TxnId) → id_eq x y ≡ false → is_finished s ms' y ≡ is_finished s ms y
    other_finished y e = ap (λ b. list_all (λ r. (b && eqb q r) || has_rows ms y r) (participants_for s y)) e

    other_collected : (y : TxnId) → id_eq x y ≡ false → collected s ms' y ≡ collected s ms y
    other_collected y e = ap (λ b. map (λ (a : Access). record { key = a.key; row = row_at (cond (b && eqb q (partition_of a.key s.parts)) rows (rows_from ms y (partition_of a.key s.parts))) a.key }) (reading (s.accesses y))) e

    other_applied : (y : TxnId) → id_eq x y ≡ false → applied s p ms' y ≡ applied s p ms y
    other_applied y e = ap (λ rs. at_part s.parts p (leaves (s.effect y rs))) (other_collected y e)

    -- the row of a key that some access has
    pub now_finish : (key : Key) (z : TxnId) (a : Access) → IsIn x s.ids → IsIn z s.ids → IsIn a (s.accesses z) → a.key ≡ key → partition_of key s.parts ≡ p → now s p ms' key ≡ put_rows (now s p ms) (applied s p ms' x) key
    now_finish key z a ix iz ia ak e =
        let sp = split_at x (order s) (in_order s v x ix) in
        let pre : List TxnId = sp.0 in
        let post : List TxnId = sp.1 in
        let here : before x (order s) ≡ pre = ap (before x) sp.2 ∙ before_split x pre post (subst (λ l. ids_in x l ≤ 1) sp.2 (order_once s v x)) in
        let low : (y : TxnId) → IsIn y pre → id_eq x y ≡ false = λ y i. apart y (inr ((before_is s v x y ix).0 (subst (λ l. IsIn y l) (sym here) i)).1) in
        let high : (y : TxnId) → IsIn y post → id_eq x y ≡ false = λ y i. apart y (inl (greater pre x post sp.2 y i)) in
        let start : Table = changed (applied s p ms) s.loaded (filter (is_finished s ms) pre) in
        let first : changed (applied s p ms') s.loaded (filter (is_finished s ms') pre) ≡ start
        = changed_both (applied s p ms') (applied s p ms) (is_finished s ms') (is_finished s ms) s.loaded pre (λ y i. (other_finished y (low y i), λ d. other_applied y (low y i))) in
        let ax : List Keyed = applied s p ms' x in
        let later : (r : Table) → changed (applied s p ms') r (filter (is_finished s ms') post) ≡ changed (applied s p ms) r (filter (is_finished s ms) post)
        = λ r. changed_both (applied s p ms') (applied s p ms) (is_finished s ms') (is_finished s ms) r post (λ y i. (other_finished y (high y i), λ d. other_applied y (high y i))) in
        let left : now s p ms' key ≡ changed (applied s p ms) (put_rows start ax) (filter (is_finished s ms) post) key
        = ap (λ l. changed (applied s p ms') s.loaded (filter (is_finished s ms') l) key) sp.2
        ∙ ap (λ l. changed (applied s p ms') s.loaded l key) (filter-append (is_finished s ms') pre (x ∷ post))
        ∙ ap (λ (t : Table). t key) (changed-append (applied s p ms') s.loaded (filter (is_finished s ms') pre) (filter (is_finished s ms') (x ∷ post)))
        ∙ ap (λ r. changed (applied s p ms') r (filter (is_finished s ms') (x ∷ post)) key) first
        ∙ ap (λ b. changed (applied s p ms') start (cond b (x ∷ filter (is_finished s ms') post) (filter (is_finished s ms') post)) key) now_done
        ∙ ap (λ (t : Table). t key) (later (put_rows start ax)) in
        let right : now s p ms ≡ changed (applied s p ms) start (filter (is_finished s ms) post)
        = ap (λ l. changed (applied s p ms) s.loaded (filter (is_finished s ms) l)) sp.2
        ∙ ap (λ l. changed (applied s p ms) s.loaded l) (filter-append (is_finished s ms) pre (x ∷ post))
        ∙ changed-append (applied s p ms) s.loaded (filter (is_finished s ms) pre) (filter (is_finished s ms) (x ∷ post))
        ∙ ap (λ b. changed (applied s p ms) start (cond b (x ∷ filter (is_finished s ms) post) (filter (is_finished s ms) post))) not_yet in
        left
        ∙ ⊎_elim
        (λ w.
        -- x changes the row: no later one has
        let u = any_found (λ (c : Keyed). key_eq c.key key) ax w in
        let uk : u.0.key ≡ key = ⊎_elim (λ t. t.1) (λ t. absurd (not_both (key_eq u.0.key key) u.2 t.0)) (key_tells u.0.key key) in
        let b = writer s v z x (collected s ms' x) u.0 a (collected_length s ms' x) iz ix ia (in_part s v p ms u.0 (leaves (s.effect x (collected s ms' x))) u.1) (uk ∙ sym ak) in
        let late : (y : TxnId) (c : Keyed) → IsIn y (filter (is_finished s ms) post) → IsIn c (applied s p ms y) → c.key ≡ key → ⊥
        = λ y c i ic is.
        let f = filter_in (is_finished s ms) y post i in
        let iy = ids_of pre x post sp.2 y (inr f.0) in
        let d = writer s v z y (collected s ms y) c a (collected_length s ms y) iz iy ia (in_part s v p ms c (leaves (s.effect y (collected s ms y))) ic) (is ∙ sym ak) in
        let at : partition_of d.0.key s.parts ≡ p = ap (λ n. partition_of n s.parts) (d.2 ∙ ak) ∙ e in
        let r = own_ready s v p ms own y d.0 f.1 d.1 at in
        ⊎_elim
        (λ g. not_both (is_finished s ms x) g not_yet)
        (λ g. not_both (clash s p y x) (clash_there s v p y x d.0 b.0 d.1 b.1 (d.2 ∙ sym b.2) at (or_left (writes d.0.mode) (writes b.0.mode) d.3)) g)
        (r.free x ((before_is s v y x iy).1 ix (greater pre x post sp.2 y f.0)))
        in
        changed_none (applied s p ms) (put_rows start ax) (filter (is_finished s ms) post) key late
        ∙ write_same start (now s p ms) ax key (sym (ap (λ (t : Table). t key) right ∙ changed_none (applied s p ms) start (filter (is_finished s ms) post) key late)))
        (λ n.
        let none : (c : Keyed) → IsIn c ax → c.key ≡ key → ⊥ = λ c i is. not_both (list_any (λ (d : Keyed). key_eq d.key key) ax) (any_at (λ (d : Keyed). key_eq d.key key) c ax i (⊎_elim (λ t. t.0) (λ t. absurd (t.1 is)) (key_tells c.key key))) n in
        changed_cong (applied s p ms) (put_rows start ax) start (filter (is_finished s ms) post) key (write_none start ax key none)
        ∙ ap (λ (t : Table). t key) (sym right)
        ∙ sym (write_none (now s p ms) ax key none))
        (is_or_not (list_any (λ (c : Keyed). key_eq c.key key) ax))
      where
        apart : (y : TxnId) → (NumberLt (number s x) (number s y)) ⊎ (NumberLt (number s y) (number s x)) → id_eq x y ≡ false
        apart y h = ⊎_elim (λ t. absurd (differ y (ap (number s) t.1) h)) (λ t. t.0) (id_tells x y)
          where
            differ : (y : TxnId) → number s x ≡ number s y → (NumberLt (number s x) (number s y)) ⊎ (NumberLt (number s y) (number s x)) → ⊥
            differ y e' h' =
                let a : (number s x).n ≡ (number s y).n = ap (λ (z : Number). z.n) e' in
                let b : (number s x).id.0 ≡ (number s y).id.0 = ap (λ (z : Number). z.id.0) e' in
                ⊎_elim
                (λ l. ⊎_elim (λ c. omega (arith, a, c)) (λ c. omega (arith, b, c.1)) l)
                (λ l. ⊎_elim (λ c. omega (arith, a, c)) (λ c. omega (arith, b, c.1)) l)
                h'
