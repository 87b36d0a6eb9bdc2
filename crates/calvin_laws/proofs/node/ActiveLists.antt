-- What a node says, by its list of active transactions.
use Rattle.std.proofs.Common.{◌≡◌, ◌≢◌, ℕ, ◌≤◌, List, [], ◌∷◌, ◌++◌, filter, Bool, true, false, cond, ◌&&◌, ◌||◌, not, eqb, refl, sym, ap, ◌∙◌, subst, inl, inr, ⊎_elim, arith}
use Rattle.std.specs.List.{list_all, list_any, flat_map}
use Rattle.std.proofs.lemmas.Grind.{flat_map-append}
use Rattle.std.proofs.lemmas.List.{append-nil}
use Rattle.deneva_base.specs.declared.numbers.TxnId.{TxnId}
use Rattle.deneva_base.specs.Lists.{IsIn}
use Rattle.deneva_base.specs.Keys.{key_eq, id_eq}
use Rattle.deneva_base.proofs.Membership.{key_tells, in_filter, any_at, any_found, and_parts, and_true, filter_in}
use Rattle.deneva_base.specs.Partitions.{partition_of}
use Rattle.deneva_base.specs.declared.rows.Keyed.{Keyed}
use Rattle.server_core.specs.declared.messages.Msg.{Msg}
use Rattle.server_core.specs.declared.messages.Msg.TheVariants.{Batch, Rows}
use Rattle.server_core.specs.Setting.{Setting, participants_for}
use Rattle.deneva_base.specs.Modes.{writes}
use Rattle.server_core.specs.CalvinScheduler.{participates, collide, clash, has_batch, has_rows, rows_from, as_far, taken, is_finished, unblocked, is_ready}
use Rattle.server_core.specs.GlobalOrder.{slots, batch, order, before, has_id}
use Rattle.server_core.specs.Calvin.{became_ready}
use Rattle.server_core.specs.CalvinProper.{Valid}
use Rattle.server_core.specs.CalvinFits.{Suits, AllFit}
use Rattle.server_core.specs.Proper.{ids_in}
use Rattle.server_core.specs.ActiveList.{active, is_first, became, without, skip_while, newly_taken}
use Rattle.server_core.proofs.lists.ListTests.{or_left, or_right, not_both, not_true, is_or_not, all_at, all_from, has_in, in_has, id_tells, id_self}
use Rattle.calvin_laws.proofs.order.Orders.{order_once, ids-append}
use Rattle.calvin_laws.proofs.order.Nodes.{ready_is, as_far_in, rows_in, batch_more}
use Rattle.server_core.proofs.lists.RowFolds.{filter-append}
use Rattle.calvin_laws.proofs.order.TakenBatches.{as_far_splits, first_taken, taken_before}
use Rattle.calvin_laws.proofs.counts.RightMails.{here_participant}
use Rattle.calvin_laws.proofs.node.Steps.{owned, own_fit}

filter_none : {A : Type 0} (f : A → Bool) (xs : List A) → ((x : A) → IsIn x xs → f x ≡ false) → filter f xs ≡ []
filter_none f [] h = refl
filter_none f (x ∷ xs) h = rw (h x (inl refl)) (filter_none f xs (λ y i. h y (inr i)))

filter_same : {A : Type 0} (f g : A → Bool) (xs : List A) → ((x : A) → IsIn x xs → f x ≡ g x) → filter f xs ≡ filter g xs
filter_same f g [] h = refl
filter_same f g (x ∷ xs) h = ap (λ b. cond b (x ∷ filter f xs) (filter f xs)) (h x (inl refl)) ∙ ap (λ l. cond (g x) (x ∷ l) l) (filter_same f g xs (λ y i. h y (inr i)))

-- a filter of those that pass another
filter_twice : {A : Type 0} (f g : A → Bool) (xs : List A) → ((x : A) → IsIn x xs → f x ≡ true → g x ≡ true) → filter f (filter g xs) ≡ filter f xs
filter_twice f g [] h = refl
filter_twice {A} f g (x ∷ xs) h = go (g x) refl (filter_twice f g xs (λ y i. h y (inr i)))
  where
    go : (b : Bool) → g x ≡ b → filter f (filter g xs) ≡ filter f xs → filter f (cond b (x ∷ filter g xs) (filter g xs)) ≡ cond (f x) (x ∷ filter f xs) (filter f xs)
    go true e next = ap (λ l. cond (f x) (x ∷ l) l) next
    go false e next =
        let off : f x ≡ false = ⊎_elim (λ t. absurd (not_both (g x) (h x (inl refl) t) e)) (λ n. n) (is_or_not (f x)) in
        rw off next

filter_and : {A : Type 0} (f g : A → Bool) (xs : List A) → filter f (filter g xs) ≡ filter (λ x. g x && f x) xs
filter_and f g [] = refl
filter_and {A} f g (x ∷ xs) = go (g x) (filter_and f g xs)
  where
    go : (b : Bool) → filter f (filter g xs) ≡ filter (λ y. g y && f y) xs → filter f (cond b (x ∷ filter g xs) (filter g xs)) ≡ cond (b && f x) (x ∷ filter (λ y. g y && f y) xs) (filter (λ y. g y && f y) xs)
    go true next = ap (λ l. cond (f x) (x ∷ l) l) next
    go false next = next

-- before x in a filter are those before it that pass
before_filter : (f : TxnId → Bool) (x : TxnId) (xs : List TxnId) → f x ≡ true → before x (filter f xs) ≡ filter f (before x xs)
before_filter f x [] h = refl
before_filter f x (y ∷ xs) h =
    ⊎_elim
    (λ (t : (id_eq y x ≡ true) × (y ≡ x)).
    let fy : f y ≡ true = subst (λ z. f z ≡ true) (sym t.1) h in
    ap (λ b. before x (cond b (y ∷ filter f xs) (filter f xs))) fy ∙ ap (λ b. cond b [] (y ∷ before x (filter f xs))) t.0 ∙ ap (λ b. filter f (cond b [] (y ∷ before x xs))) (sym t.0))
    (λ (t : (id_eq y x ≡ false) × (y ≢ x)). other t.0 (f y) refl (before_filter f x xs h))
    (id_tells y x)
  where
    other : id_eq y x ≡ false → (b : Bool) → f y ≡ b → before x (filter f xs) ≡ filter f (before x xs) → before x (cond (f y) (y ∷ filter f xs) (filter f xs)) ≡ filter f (cond (id_eq y x) [] (y ∷ before x xs))
    other e true g next = rw (g, e) (ap (λ l. y ∷ l) next ∙ sym (ap (λ b. cond b (y ∷ filter f (before x xs)) (filter f (before x xs))) g))
    other e false g next = rw (g, e) (next ∙ sym (ap (λ b. cond b (y ∷ filter f (before x xs)) (filter f (before x xs))) g))

-- the first part grows at its end
as_far_grows : {A : Type 0} (f g : A → Bool) (xs : List A) → ((x : A) → f x ≡ true → g x ≡ true) → as_far g xs ≡ as_far f xs ++ as_far g (skip_while f xs)
as_far_grows f g [] h = refl
as_far_grows {A} f g (x ∷ xs) h = go (f x) refl (as_far_grows f g xs h)
  where
    go : (b : Bool) → f x ≡ b → as_far g xs ≡ as_far f xs ++ as_far g (skip_while f xs) → as_far g (x ∷ xs) ≡ cond b (x ∷ as_far f xs) [] ++ as_far g (cond b (skip_while f xs) (x ∷ xs))
    go true e next = ap (λ b. cond b (x ∷ as_far g xs) []) (h x e) ∙ ap (λ l. x ∷ l) next
    go false e next = refl

whole_list : {A : Type 0} (f : A → Bool) (xs : List A) → xs ≡ as_far f xs ++ skip_while f xs
whole_list f [] = refl
whole_list {A} f (x ∷ xs) = go (f x) (whole_list f xs)
  where
    go : (b : Bool) → xs ≡ as_far f xs ++ skip_while f xs → x ∷ xs ≡ cond b (x ∷ as_far f xs) [] ++ cond b (skip_while f xs) (x ∷ xs)
    go true next = ap (λ l. x ∷ l) next
    go false next = refl

some_ids : (x : TxnId) (xs : List TxnId) → IsIn x xs → 1 ≤ ids_in x xs
some_ids x [] i = absurd i
some_ids x (y ∷ xs) i = ⊎_elim (λ (is : x ≡ y). let e : id_eq y x ≡ true = subst (λ z. id_eq z x ≡ true) is (id_self x) in rw e (omega arith)) (λ r. omega (arith, some_ids x xs r)) i

module _ (s : Setting) (v : Valid s) (p : ℕ) where
  abbrev stands : List Msg → TxnId → Bool
  stands ms x = participates s x p && not (is_finished s ms x)

  -- an active transaction is ready where none before it in the list conflicts with it
  pub ready_among : (ms : List Msg) (x : TxnId) → IsIn x (active s p ms) → is_ready s p ms x ≡ is_first s p (active s p ms) x
  ready_among ms x i =
      let f = filter_in (stands ms) x (taken s ms) i in
      let b = and_parts (participates s x p) (not (is_finished s ms x)) f.1 in
      ⊎_elim
      (λ t. t ∙ sym (forth f.0 f.1 t))
      (λ n. n ∙ sym (⊎_elim (λ t. absurd (not_both (is_ready s p ms x) (back f.0 f.1 b.0 t) n)) (λ m. m) (is_or_not (is_first s p (active s p ms) x))))
      (is_or_not (is_ready s p ms x))
    where
      forth : IsIn x (taken s ms) → stands ms x ≡ true → is_ready s p ms x ≡ true → is_first s p (active s p ms) x ≡ true
      forth j st h =
          all_from (λ y. not (clash s p x y)) (before x (active s p ms))
          (λ y k.
          let g = filter_in (stands ms) y (before x (taken s ms)) (subst (λ l. IsIn y l) (before_filter (stands ms) x (taken s ms) st) k) in
          let c = and_parts (participates s y p) (not (is_finished s ms y)) g.1 in
          ⊎_elim
          (λ d. absurd (not_both (is_finished s ms y) d (not_true (is_finished s ms y) c.1)))
          (λ n. ap not n)
          ((ready_is s p ms x h).free y (first_taken s v p ms x j y g.0)))

      back : IsIn x (taken s ms) → stands ms x ≡ true → participates s x p ≡ true → is_first s p (active s p ms) x ≡ true → is_ready s p ms x ≡ true
      back j st here h =
          and_true (has_id x (taken s ms)) (participates s x p && unblocked s p ms x) (in_has x (taken s ms) j)
          (and_true (participates s x p) (unblocked s p ms x) here
          (all_from (λ y. is_finished s ms y || not (clash s p x y)) (before x (order s))
          (λ y k.
          let in_taken : IsIn y (before x (taken s ms)) = taken_before s v p ms x j y k in
          ⊎_elim
          (λ d. or_left (is_finished s ms y) (not (clash s p x y)) d)
          (λ un. or_right (is_finished s ms y) (not (clash s p x y))
          (⊎_elim
          (λ c. all_at (λ z. not (clash s p x z)) y (before x (active s p ms)) h
          (subst (λ l. IsIn y l) (sym (before_filter (stands ms) x (taken s ms) st))
          (in_filter (stands ms) y (before x (taken s ms)) in_taken (and_true (participates s y p) (not (is_finished s ms y)) (clash_here x y c) (ap not un)))))
          (λ n. ap not n)
          (is_or_not (clash s p x y))))
          (is_or_not (is_finished s ms y)))))
        where
          clash_here : (x y : TxnId) → clash s p x y ≡ true → participates s y p ≡ true
          clash_here x y c =
              let a = any_found (λ d. list_any (collide s.parts p d) (s.accesses y)) (s.accesses x) c in
              let b = any_found (collide s.parts p a.0) (s.accesses y) a.2 in
              let k = and_parts (key_eq a.0.key b.0.key) (eqb (partition_of a.0.key s.parts) p && (writes a.0.mode || writes b.0.mode)) b.2 in
              let q = and_parts (eqb (partition_of a.0.key s.parts) p) (writes a.0.mode || writes b.0.mode) k.1 in
              let same : a.0.key ≡ b.0.key = ⊎_elim (λ t. t.1) (λ t. absurd (not_both (key_eq a.0.key b.0.key) k.0 t.0)) (key_tells a.0.key b.0.key) in
              any_at (λ d. eqb (partition_of d.key s.parts) p) b.0 (s.accesses y) b.1 (subst (λ z. eqb (partition_of z s.parts) p ≡ true) same q.0)

  -- no transaction is taken twice
  not_twice : (xs ys : List TxnId) → order s ≡ xs ++ ys → (x : TxnId) → IsIn x xs → IsIn x ys → ⊥
  not_twice xs ys e x i j = omega (arith, order_once s v x, ap (ids_in x) e, ids-append x xs ys, some_ids x xs i, some_ids x ys j)

  -- those that became ready are among the active ones
  pub became_active : (m : Msg) (ms : List Msg) → AllFit s p (m ∷ ms) → became_ready s p m ms ≡ filter (became s p m ms) (active s p (m ∷ ms))
  became_active m ms fit =
      let sp = as_far_splits (has_batch (m ∷ ms)) (slots s) in
      let more : List TxnId = flat_map (batch s) sp.0 in
      let whole : order s ≡ taken s (m ∷ ms) ++ more = ap (flat_map (batch s)) sp.1 ∙ flat_map-append (batch s) (as_far (has_batch (m ∷ ms)) (slots s)) sp.0 in
      let none : filter (became s p m ms) more ≡ []
      = filter_none (became s p m ms) more
      (λ x i. ⊎_elim
      (λ t. absurd (not_twice (taken s (m ∷ ms)) more whole x (has_in x (taken s (m ∷ ms)) (and_parts (has_id x (taken s (m ∷ ms))) (participates s x p && unblocked s p (m ∷ ms) x) (and_parts (is_ready s p (m ∷ ms) x) (not (is_ready s p ms x)) t).0).0) i))
      (λ n. n)
      (is_or_not (became s p m ms x)))
      in
      ap (filter (became s p m ms)) whole
      ∙ filter-append (became s p m ms) (taken s (m ∷ ms)) more
      ∙ ap (λ l. filter (became s p m ms) (taken s (m ∷ ms)) ++ l) none
      ∙ append-nil (filter (became s p m ms) (taken s (m ∷ ms)))
      ∙ sym (filter_twice (became s p m ms) (stands (m ∷ ms)) (taken s (m ∷ ms)) (λ x i t. still x (and_parts (is_ready s p (m ∷ ms) x) (not (is_ready s p ms x)) t)))
    where
      -- the Rows that m brings is of one that was ready
      own_now : (x : TxnId) (rows : List Keyed) → IsIn (Rows x p rows) (m ∷ ms) → is_ready s p ms x ≡ true
      own_now x rows i =
          ⊎_elim
          (λ (is : Rows x p rows ≡ m). own_fit s p ms x rows (subst (λ z. (f : ℕ) × Suits s p f z ms) (sym is) fit.0))
          (λ r. owned s p ms fit.1 x rows r)
          i

      still : (x : TxnId) → (is_ready s p (m ∷ ms) x ≡ true) × (not (is_ready s p ms x) ≡ true) → stands (m ∷ ms) x ≡ true
      still x b =
          let r = ready_is s p (m ∷ ms) x b.0 in
          and_true (participates s x p) (not (is_finished s (m ∷ ms) x)) r.here
          (⊎_elim
          (λ d. absurd (not_both (is_ready s p ms x) (own_now x (rows_from (m ∷ ms) x p) (rows_in (m ∷ ms) x p (all_at (has_rows (m ∷ ms) x) p (participants_for s x) d (here_participant s v x p r.here)))) (not_true (is_ready s p ms x) b.1)))
          (λ n. ap not n)
          (is_or_not (is_finished s (m ∷ ms) x)))

  -- a batch brings what it takes
  pub active_batch : (e q : ℕ) (ids : List TxnId) (ms : List Msg) → AllFit s p ms → active s p (Batch e q ids ∷ ms) ≡ active s p ms ++ filter (λ x. participates s x p) (newly_taken s (Batch e q ids) ms)
  active_batch e q ids ms fit =
      let m : Msg = Batch e q ids in
      let new : List TxnId = newly_taken s m ms in
      let grown : taken s (m ∷ ms) ≡ taken s ms ++ new = ap (flat_map (batch s)) (as_far_grows (has_batch ms) (has_batch (m ∷ ms)) (slots s) (batch_more m ms)) ∙ flat_map-append (batch s) (as_far (has_batch ms) (slots s)) (as_far (has_batch (m ∷ ms)) (skip_while (has_batch ms) (slots s))) in
      let rest : List TxnId = flat_map (batch s) (skip_while (has_batch ms) (slots s)) in
      let whole : order s ≡ taken s ms ++ rest = ap (flat_map (batch s)) (whole_list (has_batch ms) (slots s)) ∙ flat_map-append (batch s) (as_far (has_batch ms) (slots s)) (skip_while (has_batch ms) (slots s)) in
      ap (filter (stands (m ∷ ms))) grown
      ∙ filter-append (stands ms) (taken s ms) new
      ∙ ap (λ l. active s p ms ++ l) (filter_same (stands ms) (λ x. participates s x p) new (λ x i.
      ⊎_elim
      (λ t. ap (λ b. b && not (is_finished s ms x)) t
      ∙ ⊎_elim
      (λ d. absurd (not_twice (taken s ms) rest whole x
      (has_in x (taken s ms) (and_parts (has_id x (taken s ms)) (participates s x p && unblocked s p ms x) (owned s p ms fit x (rows_from ms x p) (rows_in ms x p (all_at (has_rows ms x) p (participants_for s x) d (here_participant s v x p t))))).0)
      (as_far_in s (has_batch (m ∷ ms)) x (skip_while (has_batch ms) (slots s)) i)))
      (λ n. ap not n)
      (is_or_not (is_finished s ms x))
      ∙ sym t)
      (λ n. ap (λ b. b && not (is_finished s ms x)) n ∙ sym n)
      (is_or_not (participates s x p))))

  other_done : (x : TxnId) (q : ℕ) (rows : List Keyed) (ms : List Msg) (y : TxnId) → (x ≢ y) → is_finished s (Rows x q rows ∷ ms) y ≡ is_finished s ms y
  other_done x q rows ms y ne =
      let e : id_eq x y ≡ false = ⊎_elim (λ t. absurd (ne t.1)) (λ t. t.0) (id_tells x y) in
      ap (λ b. list_all (λ r. (b && eqb q r) || has_rows ms y r) (participants_for s y)) e

  -- Rows that finish x take it away
  pub active_finish : (x : TxnId) (q : ℕ) (rows : List Keyed) (ms : List Msg) → is_finished s (Rows x q rows ∷ ms) x ≡ true → active s p (Rows x q rows ∷ ms) ≡ without x (active s p ms)
  active_finish x q rows ms f =
      filter_same (stands (Rows x q rows ∷ ms)) (λ y. stands ms y && not (id_eq y x)) (taken s ms) (λ y i.
      ⊎_elim
      (λ t.
      let d : is_finished s (Rows x q rows ∷ ms) y ≡ true = subst (λ z. is_finished s (Rows x q rows ∷ ms) z ≡ true) (sym t.1) f in
      ap (λ b. participates s y p && not b) d ∙ off (participates s y p) ∙ sym (ap (λ b. stands ms y && not b) t.0 ∙ off (stands ms y)))
      (λ t. ap (λ b. participates s y p && not b) (other_done x q rows ms y (λ is. t.1 (sym is))) ∙ sym (ap (λ b. stands ms y && not b) t.0 ∙ on (stands ms y)))
      (id_tells y x))
      ∙ sym (filter_and (λ y. not (id_eq y x)) (stands ms) (taken s ms))
    where
      off : (b : Bool) → (b && false) ≡ false
      off true = refl
      off false = refl

      on : (b : Bool) → (b && true) ≡ b
      on true = refl
      on false = refl

  -- and others change nothing
  pub active_same : (x : TxnId) (q : ℕ) (rows : List Keyed) (ms : List Msg) → is_finished s (Rows x q rows ∷ ms) x ≡ is_finished s ms x → active s p (Rows x q rows ∷ ms) ≡ active s p ms
  active_same x q rows ms f =
      filter_same (stands (Rows x q rows ∷ ms)) (stands ms) (taken s ms) (λ y i.
      ap (λ b. participates s y p && not b)
      (⊎_elim
      (λ t. subst (λ z. is_finished s (Rows x q rows ∷ ms) z ≡ is_finished s ms z) t.1 f)
      (λ t. other_done x q rows ms y t.1)
      (id_tells x y)))
