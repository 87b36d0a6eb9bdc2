-- What a node reads for a transaction is what serial execution reads.
use Rattle.std.proofs.Common.{◌≡◌, ◌≢◌, ℕ, ◌≤◌, List, [], ◌∷◌, ◌++◌, filter, true, false, ◌&&◌, ◌||◌, eqb, refl, sym, ap, ◌∙◌, subst, inl, inr, ⊎_elim, length}
use Rattle.std.specs.List.{list_any}
use Rattle.std.proofs.lemmas.List.{length-map}
use Rattle.deneva_base.specs.declared.keys.Key.{Key}
use Rattle.deneva_base.specs.declared.numbers.TxnId.{TxnId}
use Rattle.deneva_base.specs.Lists.{IsIn}
use Rattle.deneva_base.specs.Rows.{Rows as Table, put_rows, row_or_empty, row_at}
use Rattle.deneva_base.specs.Keys.{key_eq}
use Rattle.deneva_base.specs.declared.rows.Keyed.{Keyed}
use Rattle.deneva_base.proofs.Membership.{key_tells, and_true, filter_in}
use Rattle.deneva_base.proofs.Membership.{in_left, in_right, in_filter, any_at}
use Rattle.server_core.specs.declared.messages.Msg.{Msg}
use Rattle.server_core.specs.declared.messages.Msg.TheVariants.{Rows}
use Rattle.deneva_base.specs.Partitions.{partition_of}
use Rattle.server_core.specs.Coordinator.{at_part}
use Rattle.deneva_base.specs.declared.keys.Access.{Access}
use Rattle.server_core.specs.Setting.{Setting, participants_for}
use Rattle.deneva_base.specs.Modes.{reads, writes}
use Rattle.server_core.specs.CalvinScheduler.{collide, clash, reading_at, changed, has_rows, rows_from, is_finished, is_ready, collected, applied, now, rows_at}
use Rattle.txn_program.specs.Transactions.{reading}
use Rattle.server_core.specs.CalvinSerial.{read_at, reads_on, serial_step, serial_after, rows_before, serial_part}
use Rattle.server_core.specs.Effects.{leaves}
use Rattle.server_core.specs.GlobalOrder.{order, before}
use Rattle.server_core.specs.CalvinProper.{Valid}
use Rattle.server_core.specs.Proper.{ids_in}
use Rattle.server_core.proofs.lists.ListTests.{or_left, or_right, not_both, all_at, map_same, same_number}
use Rattle.calvin_laws.proofs.order.Nodes.{rows_in, Ready, ready_is, access_there, number_is}
use Rattle.calvin_laws.proofs.order.Orders.{order_once, order_in, split_at, before_split}
use Rattle.server_core.proofs.lists.RowFolds.{changed-append, filter-append, changed_none, changed_part, change_cases}

-- each own Rows is of a transaction that is ready
abbrev pub Owned : Setting → ℕ → List Msg → Type 0
Owned s p ms = (x : TxnId) (rows : List Keyed) → IsIn (Rows x p rows) ms → is_ready s p ms x ≡ true

-- what the Rows that a node has handled are
pub record Known (s : Setting) (p : ℕ) (ms : List Msg) : Type 0 where
  pub right : (x : TxnId) (q : ℕ) (rows : List Keyed) → IsIn (Rows x q rows) ms → IsIn x s.ids × (rows ≡ serial_part s q x)
  pub own : Owned s p ms

key_self : (k : Key) → key_eq k k ≡ true
key_self k = ⊎_elim (λ t. t.0) (λ t. absurd (t.1 refl)) (key_tells k k)

found_keyed : (rows : Table) (a : Access) (as' : List Access) → IsIn a as' → row_at (read_at rows as') a.key ≡ row_or_empty (rows a.key)
found_keyed rows a [] i = absurd i
found_keyed rows a (b ∷ as') i =
    ⊎_elim
    (λ (t : (key_eq b.key a.key ≡ true) × (b.key ≡ a.key)). rw t.0 (ap (λ k. row_or_empty (rows k)) t.1))
    (λ (t : (key_eq b.key a.key ≡ false) × (b.key ≢ a.key)). rw t.0 (⊎_elim (λ (is : a ≡ b). absurd (t.1 (ap (λ (z : Access). z.key) (sym is)))) (λ r. found_keyed rows a as' r) i))
    (key_tells b.key a.key)

pub after-append : (s : Setting) (rows : Table) (xs ys : List TxnId) → serial_after s rows (xs ++ ys) ≡ serial_after s (serial_after s rows xs) ys
after-append s rows [] ys = refl
after-append s rows (x ∷ xs) ys = after-append s (serial_step s rows x) xs ys

pub append-one : (x : TxnId) (xs ys : List TxnId) → xs ++ x ∷ ys ≡ (xs ++ x ∷ []) ++ ys
append-one x [] ys = refl
append-one x (y ∷ xs) ys = ap (λ l. y ∷ l) (append-one x xs ys)

pub collected_length : (s : Setting) (ms : List Msg) (x : TxnId) → length (collected s ms x) ≡ length (reading (s.accesses x))
collected_length s ms x = length-map (reading (s.accesses x)) (λ a. record { key = a.key; row = row_at (rows_from ms x (partition_of a.key s.parts)) a.key })

module _ (s : Setting) (v : Valid s) where
  -- what x changes at its turn
  abbrev pub serial_changes : TxnId → List Keyed
  serial_changes x = leaves (s.effect x (reads_on s (rows_before s x) x))

  pub by_changes : (pre xs post : List TxnId) → order s ≡ pre ++ (xs ++ post) → serial_after s (serial_after s s.loaded pre) xs ≡ changed serial_changes (serial_after s s.loaded pre) xs
  by_changes pre [] post e = refl
  by_changes pre (x ∷ xs) post e =
      let here : before x (order s) ≡ pre = ap (before x) e ∙ before_split x pre (xs ++ post) (subst (λ l. ids_in x l ≤ 1) e (order_once s v x)) in
      let step : serial_after s s.loaded (pre ++ x ∷ []) ≡ serial_step s (serial_after s s.loaded pre) x = after-append s s.loaded pre (x ∷ []) in
      let same : serial_changes x ≡ leaves (s.effect x (reads_on s (serial_after s s.loaded pre) x)) = ap (λ l. leaves (s.effect x (reads_on s (serial_after s s.loaded l) x))) here in
      let next = by_changes (pre ++ x ∷ []) xs post (e ∙ append-one x pre (xs ++ post)) in
      subst (λ r. serial_after s r xs ≡ changed serial_changes r xs) step next ∙ ap (λ ws. changed serial_changes (put_rows (serial_after s s.loaded pre) ws) xs) (sym same)

  -- who changes a row has an access that writes there, if another transaction has access to it
  pub writer : (x y : TxnId) (rs : List Keyed) (w : Keyed) (a : Access) → length rs ≡ length (reading (s.accesses y)) → IsIn x s.ids → IsIn y s.ids → IsIn a (s.accesses x) → IsIn w (leaves (s.effect y rs)) → w.key ≡ a.key → (b : Access) × IsIn b (s.accesses y) × (b.key ≡ a.key) × (writes b.mode ≡ true)
  writer x y rs w a l ix iy ia iw e =
      ⊎_elim
      (λ i. let n = v.writes y rs w iy l i in (n.0, n.1, n.2 ∙ e, n.3))
      (λ i. absurd ((v.appends y rs w iy l i).1 x a ix ia (sym e)))
      (change_cases (s.effect y rs) w iw)

  collide_there : (p : ℕ) (a b : Access) → a.key ≡ b.key → partition_of a.key s.parts ≡ p → (writes a.mode || writes b.mode) ≡ true → collide s.parts p a b ≡ true
  collide_there p a b e f h =
      and_true (key_eq a.key b.key) (eqb (partition_of a.key s.parts) p && (writes a.mode || writes b.mode))
      (subst (λ k. key_eq a.key k ≡ true) e (key_self a.key))
      (and_true (eqb (partition_of a.key s.parts) p) (writes a.mode || writes b.mode) (subst (λ n. eqb (partition_of a.key s.parts) n ≡ true) f (same_number (partition_of a.key s.parts))) h)

  pub clash_there : (p : ℕ) (x y : TxnId) (a b : Access) → IsIn a (s.accesses x) → IsIn b (s.accesses y) → a.key ≡ b.key → partition_of a.key s.parts ≡ p → (writes a.mode || writes b.mode) ≡ true → clash s p x y ≡ true
  clash_there p x y a b i j e f h =
      any_at (λ c. list_any (collide s.parts p c) (s.accesses y)) a (s.accesses x) i (any_at (collide s.parts p a) b (s.accesses y) j (collide_there p a b e f h))

  module _ (p : ℕ) (ms : List Msg) where
    -- a finished participant was ready here
    pub own_ready : Owned s p ms → (x : TxnId) (b : Access) → is_finished s ms x ≡ true → IsIn b (s.accesses x) → partition_of b.key s.parts ≡ p → Ready s p ms x
    own_ready own x b f i e =
        let there = subst (λ n. IsIn n (participants_for s x)) e (access_there s v.parts x b i) in
        ready_is s p ms x (own x (rows_from ms x p) (rows_in ms x p (all_at (has_rows ms x) p (participants_for s x) f there)))

    pub in_part : (w : Keyed) (ws : List Keyed) → IsIn w (at_part s.parts p ws) → IsIn w ws
    in_part w ws i = (filter_in (λ u. eqb (partition_of u.key s.parts) p) w ws i).0

  module _ (p : ℕ) (ms : List Msg) (k : Known s p ms) where
    -- a finished transaction was sent what it reads in serial execution
    pub collected_is : (x : TxnId) → is_finished s ms x ≡ true → collected s ms x ≡ reads_on s (rows_before s x) x
    collected_is x f =
        map_same
        (λ a. record { key = a.key; row = row_at (rows_from ms x (partition_of a.key s.parts)) a.key })
        (λ a. record { key = a.key; row = row_or_empty (rows_before s x a.key) })
        (reading (s.accesses x))
        (λ a i.
        let acc = filter_in (λ b. reads b.mode) a (s.accesses x) i in
        let has = all_at (has_rows ms x) (partition_of a.key s.parts) (participants_for s x) f (access_there s v.parts x a acc.0) in
        let is = (k.right x (partition_of a.key s.parts) (rows_from ms x (partition_of a.key s.parts)) (rows_in ms x (partition_of a.key s.parts) has)).1 in
        ap (λ row. record { key = a.key; row = row }) (ap (λ l. row_at l a.key) is ∙ found_keyed (rows_before s x) a (reading_at s (partition_of a.key s.parts) x) (in_filter (λ b. eqb (partition_of b.key s.parts) (partition_of a.key s.parts)) a (reading (s.accesses x)) i (same_number (partition_of a.key s.parts)))))

    pub applied_is : (x : TxnId) → is_finished s ms x ≡ true → applied s p ms x ≡ at_part s.parts p (serial_changes x)
    applied_is x f = ap (λ rs. at_part s.parts p (leaves (s.effect x rs))) (collected_is x f)

    -- at its turn the rows here are those after all before it
    pub now_is : (x : TxnId) (a : Access) → Ready s p ms x → is_finished s ms x ≡ false → IsIn a (s.accesses x) → partition_of a.key s.parts ≡ p → now s p ms a.key ≡ rows_before s x a.key
    now_is x a r undone i e =
        let sp = split_at x (order s) r.ordered in
        let pre : List TxnId = sp.0 in
        let post : List TxnId = sp.1 in
        let here : before x (order s) ≡ pre = ap (before x) sp.2 ∙ before_split x pre post (subst (λ l. ids_in x l ≤ 1) sp.2 (order_once s v x)) in
        let in_ids : (y : TxnId) → IsIn y (pre ++ x ∷ post) → IsIn y s.ids = λ y j. order_in s y (subst (λ l. IsIn y l) (sym sp.2) j) in
        let ix : IsIn x s.ids = order_in s x r.ordered in
        -- no later one that changes the row has finished
        let late : (y : TxnId) (w : Keyed) → IsIn y (filter (is_finished s ms) (x ∷ post)) → IsIn w (applied s p ms y) → w.key ≡ a.key → ⊥
        = λ y w j iw is.
        let f = filter_in (is_finished s ms) y (x ∷ post) j in
        ⊎_elim
        (λ (same : y ≡ x). not_both (is_finished s ms x) (subst (λ z. is_finished s ms z ≡ true) same f.1) undone)
        (λ after.
        let b = writer x y (collected s ms y) w a (collected_length s ms y) ix (in_ids y (in_right y pre (x ∷ post) (inr after))) i (in_part p ms w (leaves (s.effect y (collected s ms y))) iw) is in
        let ry = own_ready p ms k.own y b.0 f.1 b.1 (ap (λ z. partition_of z s.parts) b.2 ∙ e) in
        let sq = split_at y post after in
        let whole : order s ≡ (pre ++ x ∷ sq.0) ++ y ∷ sq.1 = sp.2 ∙ ap (λ l. pre ++ x ∷ l) sq.2 ∙ rejoin pre x sq.0 (y ∷ sq.1) in
        let there : before y (order s) ≡ pre ++ x ∷ sq.0 = ap (before y) whole ∙ before_split y (pre ++ x ∷ sq.0) sq.1 (subst (λ l. ids_in y l ≤ 1) whole (order_once s v y)) in
        ⊎_elim
        (λ d. not_both (is_finished s ms x) d undone)
        (λ c. not_both (clash s p y x) (clash_there p y x b.0 a b.1 i b.2 (ap (λ z. partition_of z s.parts) b.2 ∙ e) (or_left (writes b.0.mode) (writes a.mode) b.3)) c)
        (ry.free x (subst (λ l. IsIn x l) (sym there) (in_right x pre (x ∷ sq.0) (inl refl)))))
        f.0
        in
        let early : (y : TxnId) (w : Keyed) → IsIn y pre → is_finished s ms y ≡ false → IsIn w (serial_changes y) → w.key ≡ a.key → ⊥
        = λ y w j un iw is.
        let b = writer x y (reads_on s (rows_before s y) y) w a (length-map (reading (s.accesses y)) (λ b. record { key = b.key; row = row_or_empty (rows_before s y b.key) })) ix (in_ids y (in_left y pre (x ∷ post) j)) i iw is in
        ⊎_elim
        (λ d. not_both (is_finished s ms y) d un)
        (λ c. not_both (clash s p x y) (clash_there p x y a b.0 i b.1 (sym b.2) e (or_right (writes a.mode) (writes b.0.mode) b.3)) c)
        (r.free y (subst (λ l. IsIn y l) (sym here) j))
        in
        ap (λ l. changed (applied s p ms) s.loaded (filter (is_finished s ms) l) a.key) sp.2
        ∙ ap (λ l. changed (applied s p ms) s.loaded l a.key) (filter-append (is_finished s ms) pre (x ∷ post))
        ∙ ap (λ (t : Table). t a.key) (changed-append (applied s p ms) s.loaded (filter (is_finished s ms) pre) (filter (is_finished s ms) (x ∷ post)))
        ∙ changed_none (applied s p ms) (changed (applied s p ms) s.loaded (filter (is_finished s ms) pre)) (filter (is_finished s ms) (x ∷ post)) a.key late
        ∙ changed_part s.parts p (is_finished s ms) (applied s p ms) serial_changes s.loaded s.loaded pre a.key e refl (λ y j. applied_is y) early
        ∙ ap (λ (t : Table). t a.key) (sym (by_changes [] pre (x ∷ post) sp.2))
        ∙ ap (λ l. serial_after s s.loaded l a.key) (sym here)
      where
        rejoin : (pre : List TxnId) (x : TxnId) (as' bs : List TxnId) → pre ++ x ∷ (as' ++ bs) ≡ (pre ++ x ∷ as') ++ bs
        rejoin [] x as' bs = refl
        rejoin (z ∷ pre) x as' bs = ap (λ l. z ∷ l) (rejoin pre x as' bs)

    -- so its Rows are those of serial execution
    pub rows_are : (x : TxnId) → Ready s p ms x → is_finished s ms x ≡ false → rows_at s p ms x ≡ serial_part s p x
    rows_are x r undone =
        map_same
        (λ a. record { key = a.key; row = row_or_empty (now s p ms a.key) })
        (λ a. record { key = a.key; row = row_or_empty (rows_before s x a.key) })
        (reading_at s p x)
        (λ a i.
        let here = filter_in (λ b. eqb (partition_of b.key s.parts) p) a (reading (s.accesses x)) i in
        let acc = filter_in (λ b. reads b.mode) a (s.accesses x) here.0 in
        ap (λ o. record { key = a.key; row = row_or_empty o }) (now_is x a r undone acc.0 (number_is (partition_of a.key s.parts) p here.1)))
