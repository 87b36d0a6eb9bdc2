-- The version of each key: its row is the row of the node, and one more finished transaction offers what it leaves.
use Rattle.std.proofs.Common.{◌≡◌, ◌≢◌, ◌≤◌, ℕ, List, [], ◌∷◌, ◌++◌, length, filter, map, Bool, true, false, cond, ◌&&◌, ◌||◌, eqb, refl, sym, ap, ◌∙◌, subst, inl, inr, ⊎_elim, arith, true≢false, Option, Some, None}
use Rattle.std.specs.Prelude.{⊤, option_map}
use Rattle.std.specs.List.{list_all}
use Rattle.std.proofs.lemmas.Bool.Decides.{nat_tests}
use Rattle.deneva_base.specs.declared.config.Config.{Config}
use Rattle.deneva_base.specs.declared.keys.Key.{Key}
use Rattle.deneva_base.specs.declared.keys.Access.{Access}
use Rattle.deneva_base.specs.declared.numbers.TxnId.{TxnId}
use Rattle.deneva_base.specs.declared.numbers.Number.{Number}
use Rattle.deneva_base.specs.declared.rows.Keyed.{Keyed}
use Rattle.protocol_rules.specs.Conditions.{Distinct}
use Rattle.deneva_base.specs.Keys.{NumberLt, key_eq, id_eq, number_lt, loaded_version}
use Rattle.deneva_base.specs.Lists.{IsIn}
use Rattle.deneva_base.specs.Partitions.{partition_of}
use Rattle.deneva_base.specs.Rows.{Row, Rows as Table, row_of, row_at, put_row, put_rows}
use Rattle.deneva_base.proofs.Membership.{in_right, in_cases, filter_in, key_tells, number_decides}
use Rattle.deneva_base.proofs.PutRows.{row_of-none}
use Rattle.txn_program.specs.InWorkload.{effect_in}
use Rattle.txn_program.specs.Transactions.{reading}
use Rattle.txn_program.specs.Valid.{IsValid}
use Rattle.txn_program.specs.declared.programs.Workload.{Workload}
use Rattle.txn_program.proofs.WorkloadLaws as law
use Rattle.row_store.specs.Stores.{loaded, numbered, newest}
use Rattle.row_store.specs.declared.versions.Version.{Version}
use Rattle.server_core.specs.CalvinProper.{Valid}
use Rattle.server_core.specs.CalvinSerial.{RisingIds}
use Rattle.server_core.specs.Configs.{IsConfig}
use Rattle.server_core.specs.Coordinator.{at_part}
use Rattle.server_core.specs.Effects.{leaves, written, appended}
use Rattle.server_core.specs.GlobalOrder.{order, number}
use Rattle.server_core.specs.CalvinScheduler.{has_rows, rows_from, is_finished, collected, applied, changed, now}
use Rattle.server_core.specs.Setting.{Setting, setting, participants_for}
use Rattle.server_core.specs.declared.messages.Msg.{Msg}
use Rattle.server_core.specs.declared.messages.Msg.TheVariants.{Tick, Batch, Rows, Finished}
use Rattle.server_core.proofs.configured.CalvinSettings as calvin
use Rattle.calvin_laws.proofs.order.OrderNumbers.{rising}
use Rattle.server_core.proofs.lists.ListTests.{all_at, is_or_not, id_tells, not_both}
use Rattle.calvin_laws.proofs.order.Nodes.{access_there}
use Rattle.calvin_laws.proofs.order.Orders.{order_in, in_order, split_at}
use Rattle.server_core.proofs.lists.RowFolds.{filter-append}
use Rattle.server_core.proofs.configured.Workloads as workload
use Rattle.calvin_sched.specs.Versions.{offered, versions, version}

-- numbers

not_back : (a b : Number) → number_lt a b ≡ true → number_lt b a ≡ false
not_back a b e = grind (arith, nat_tests)

onward : (a b c : Number) → number_lt a b ≡ true → number_lt b c ≡ true → number_lt a c ≡ true
onward a b c e f = grind (arith, nat_tests)

less_lt : (a b : Number) → NumberLt a b → number_lt a b ≡ true
less_lt a b h = (number_decides a b).1 h

-- of two versions the greater stays, in whichever order they come
newest_swap : (v : Option Version) (x y : Version) → number_lt x.number y.number ≡ true → newest (newest v x) y ≡ newest (newest v y) x
newest_swap None x y e = let b = not_back x.number y.number e in rw (e, b) refl
newest_swap (Some u) x y e = go (number_lt u.number x.number) (number_lt u.number y.number) refl refl
  where
    go : (a b : Bool) → number_lt u.number x.number ≡ a → number_lt u.number y.number ≡ b → newest (Some (cond a x u)) y ≡ newest (Some (cond b y u)) x
    go true true f g = let n = not_back x.number y.number e in rw (e, n) refl
    go true false f g = absurd (not_both (number_lt u.number y.number) (onward u.number x.number y.number f e) g)
    go false true f g = let n = not_back x.number y.number e in rw (g, n) refl
    go false false f g = rw (f, g) refl

pub offered_swap : (v : Option Version) (m n : Number) (a b : Option Row) → number_lt m n ≡ true → offered (offered v m a) n b ≡ offered (offered v n b) m a
offered_swap v m n None b e = refl
offered_swap v m n (Some a) None e = refl
offered_swap v m n (Some a) (Some b) e = newest_swap v (numbered m a) (numbered n b) e

-- folds of offers

versions-append : (num : TxnId → Number) (left : TxnId → List Keyed) (key : Key) (v : Option Version) (xs ys : List TxnId) → versions num left key v (xs ++ ys) ≡ versions num left key (versions num left key v xs) ys
versions-append num left key v [] ys = refl
versions-append num left key v (x ∷ xs) ys = versions-append num left key (offered v (num x) (row_of (left x) key)) xs ys

-- those of greater numbers may come before or after it
offered_last : (num : TxnId → Number) (left : TxnId → List Keyed) (key : Key) (v : Option Version) (n : Number) (r : Option Row) (ys : List TxnId) → ((y : TxnId) → IsIn y ys → number_lt n (num y) ≡ true) → versions num left key (offered v n r) ys ≡ offered (versions num left key v ys) n r
offered_last num left key v n r [] h = refl
offered_last num left key v n r (y ∷ ys) h =
    ap (λ u. versions num left key u ys) (offered_swap v n (num y) r (row_of (left y) key) (h y (inl refl)))
    ∙ offered_last num left key (offered v (num y) (row_of (left y) key)) n r ys (λ z i. h z (inr i))

versions_both : (num : TxnId → Number) (f g : TxnId → List Keyed) (a b : TxnId → Bool) (key : Key) (v : Option Version) (xs : List TxnId) → ((x : TxnId) → IsIn x xs → (a x ≡ b x) × (b x ≡ true → f x ≡ g x)) → versions num f key v (filter a xs) ≡ versions num g key v (filter b xs)
versions_both num f g a b key v [] h = refl
versions_both num f g a b key v (x ∷ xs) h =
    let n = h x (inl refl) in
    ap (λ c. versions num f key v (cond c (x ∷ filter a xs) (filter a xs))) n.0
    ∙ go (b x) refl (λ u. versions_both num f g a b key u xs (λ y i. h y (inr i))) n.1
  where
    go : (c : Bool) → b x ≡ c → ((u : Option Version) → versions num f key u (filter a xs) ≡ versions num g key u (filter b xs)) → (b x ≡ true → f x ≡ g x) → versions num f key v (cond (b x) (x ∷ filter a xs) (filter a xs)) ≡ versions num g key v (cond (b x) (x ∷ filter b xs) (filter b xs))
    go true e next same = rw e (next (offered v (num x) (row_of (f x) key)) ∙ ap (λ ws. versions num g key (offered v (num x) (row_of ws key)) (filter b xs)) (same e))
    go false e next same = rw e (next v)

-- none of the list
filter_none : {A : Type 0} (f : A → Bool) (xs : List A) → ((x : A) → IsIn x xs → f x ≡ false) → filter f xs ≡ []
filter_none f [] h = refl
filter_none f (x ∷ xs) h = rw (h x (inl refl)) (filter_none f xs (λ y i. h y (inr i)))

module _ (s : Setting) (p : ℕ) where
  -- another transaction's Rows change nothing of y

  module _ (x : TxnId) (q : ℕ) (rows : List Keyed) (ms : List Msg) (y : TxnId) (e : id_eq x y ≡ false) where
    other_finished : is_finished s (Rows x q rows ∷ ms) y ≡ is_finished s ms y
    other_finished = ap (λ b. list_all (λ r. (b && eqb q r) || has_rows ms y r) (participants_for s y)) e

    other_collected : collected s (Rows x q rows ∷ ms) y ≡ collected s ms y
    other_collected = ap (λ b. map (λ (a : Access). record { key = a.key; row = row_at (cond (b && eqb q (partition_of a.key s.parts)) rows (rows_from ms y (partition_of a.key s.parts))) a.key }) (reading (s.accesses y))) e

    other_applied : applied s p (Rows x q rows ∷ ms) y ≡ applied s p ms y
    other_applied = ap (λ rs. at_part s.parts p (leaves (s.effect y rs))) other_collected

  -- the version of a key where x is not finished by its Rows
  pub version_same : (x : TxnId) (q : ℕ) (rows : List Keyed) (ms : List Msg) (key : Key) → is_finished s (Rows x q rows ∷ ms) x ≡ is_finished s ms x → is_finished s (Rows x q rows ∷ ms) x ≡ false → version s p (Rows x q rows ∷ ms) key ≡ version s p ms key
  version_same x q rows ms key same un =
      versions_both (number s) (applied s p (Rows x q rows ∷ ms)) (applied s p ms) (is_finished s (Rows x q rows ∷ ms)) (is_finished s ms) key (option_map loaded (s.loaded key)) (order s)
      (λ y i. ⊎_elim
      (λ (t : (id_eq x y ≡ true) × (x ≡ y)). (
        subst (λ z. is_finished s (Rows x q rows ∷ ms) z ≡ is_finished s ms z) t.1 same,
        λ d. absurd (not_both (is_finished s ms y) d (subst (λ z. is_finished s ms z ≡ false) t.1 (sym same ∙ un))),
      ))
      (λ (t : (id_eq x y ≡ false) × (x ≢ y)). (other_finished x q rows ms y t.0, λ d. other_applied x q rows ms y t.0))
      (id_tells x y))

  -- Ticks, Batches and Finisheds change no version

  pub version_tick : (e : ℕ) (ms : List Msg) (key : Key) → version s p (Tick e ∷ ms) key ≡ version s p ms key
  version_tick e ms key = refl

  pub version_batch : (e q : ℕ) (ids : List TxnId) (ms : List Msg) (key : Key) → version s p (Batch e q ids ∷ ms) key ≡ version s p ms key
  version_batch e q ids ms key = refl

  pub version_told : (x : TxnId) (q : ℕ) (n : Number) (ms : List Msg) (key : Key) → version s p (Finished x q n ∷ ms) key ≡ version s p ms key
  version_told x q n ms key = refl

  -- a row of another partition's key is not applied here
  pub elsewhere : (ms : List Msg) (x : TxnId) (key : Key) → eqb (partition_of key s.parts) p ≡ false → row_of (applied s p ms x) key ≡ None
  elsewhere ms x key e =
      row_of-none (applied s p ms x) key
      (λ w i is. not_both (eqb (partition_of w.key s.parts) p) (filter_in (λ (u : Keyed). eqb (partition_of u.key s.parts) p) w (leaves (s.effect x (collected s ms x))) i).1 (ap (λ k. eqb (partition_of k s.parts) p) is ∙ e))

  module _ (v : Valid s) where
    -- by no message a transaction is finished
    none_finished : (x : TxnId) → IsIn x s.ids → is_finished s [] x ≡ false
    none_finished x i = ⊎_elim (λ t. absurd (go (s.accesses x) refl (v.some x i) t)) (λ f. f) (is_or_not (is_finished s [] x))
      where
        go : (as' : List Access) → s.accesses x ≡ as' → 1 ≤ length as' → is_finished s [] x ≡ true → ⊥
        go [] e h t = omega (arith, h)
        go (a ∷ as') e h t =
            true≢false (sym (all_at (has_rows [] x) (partition_of a.key s.parts) (participants_for s x) t (access_there s v.parts x a (subst (λ l. IsIn a l) (sym e) (inl refl)))))

    -- the first version is the loaded one
    pub version_first : (key : Key) → version s p [] key ≡ option_map loaded (s.loaded key)
    version_first key = ap (λ l. versions (number s) (applied s p []) key (option_map loaded (s.loaded key)) l) (filter_none (is_finished s []) (order s) (λ x i. none_finished x (order_in s x i)))

    -- numbers tell transactions apart
    apart : (x y : TxnId) → NumberLt (number s x) (number s y) → x ≢ y
    apart x y h is = differ (number s x) (number s y) (ap (number s) is) h
      where
        differ : (m n : Number) → m ≡ n → NumberLt m n → ⊥
        differ m n e l =
            let a : m.n ≡ n.n = ap (λ (z : Number). z.n) e in
            let b : m.id.0 ≡ n.id.0 = ap (λ (z : Number). z.id.0) e in
            ⊎_elim (λ c. omega (arith, a, c)) (λ c. omega (arith, b, c.1)) l

    -- before x stand smaller numbers, after it greater ones
    around : (pre : List TxnId) (x : TxnId) (post : List TxnId) → RisingIds s (pre ++ x ∷ post) → ((y : TxnId) → IsIn y pre → NumberLt (number s y) (number s x)) × ((y : TxnId) → IsIn y post → NumberLt (number s x) (number s y))
    around [] x post r = ((λ y i. absurd i), r.0)
    around (z ∷ pre) x post r =
        let n = around pre x post r.1 in
        ((λ y i. ⊎_elim (λ (is : y ≡ z). subst (λ w. NumberLt (number s w) (number s x)) (sym is) (r.0 x (in_right x pre (x ∷ post) (inl refl)))) (λ j. n.0 y j) i), n.1)

    -- the version of a key where x is finished by its Rows
    pub version_finish : (x : TxnId) (q : ℕ) (rows : List Keyed) (ms : List Msg) (key : Key) → is_finished s (Rows x q rows ∷ ms) x ≡ true → is_finished s ms x ≡ false → IsIn x s.ids → version s p (Rows x q rows ∷ ms) key ≡ offered (version s p ms key) (number s x) (row_of (applied s p (Rows x q rows ∷ ms) x) key)
    version_finish x q rows ms key done un i =
        let sp = split_at x (order s) (in_order s v x i) in
        let pre : List TxnId = sp.0 in
        let post : List TxnId = sp.1 in
        let sides = around pre x post (subst (λ l. RisingIds s l) sp.2 (rising s v)) in
        let ms' : List Msg = Rows x q rows ∷ ms in
        let f : TxnId → List Keyed = applied s p ms in
        let f' : TxnId → List Keyed = applied s p ms' in
        let a : TxnId → Bool = is_finished s ms in
        let a' : TxnId → Bool = is_finished s ms' in
        let start : Option Version = option_map loaded (s.loaded key) in
        let r : Option Row = row_of (f' x) key in
        let other : (y : TxnId) → x ≢ y → (a' y ≡ a y) × (a y ≡ true → f' y ≡ f y)
        = λ y ne. ⊎_elim (λ t. absurd (ne t.1)) (λ t. (other_finished x q rows ms y t.0, λ d. other_applied x q rows ms y t.0)) (id_tells x y) in
        let first : versions (number s) f' key start (filter a' pre) ≡ versions (number s) f key start (filter a pre)
        = versions_both (number s) f' f a' a key start pre (λ y j. other y (λ is. apart y x (sides.0 y j) (sym is))) in
        let later : (u : Option Version) → versions (number s) f' key u (filter a' post) ≡ versions (number s) f key u (filter a post)
        = λ u. versions_both (number s) f' f a' a key u post (λ y j. other y (apart x y (sides.1 y j))) in
        let low : Option Version = versions (number s) f key start (filter a pre) in
        let left : version s p ms' key ≡ versions (number s) f key (offered low (number s x) r) (filter a post)
        = ap (λ l. versions (number s) f' key start (filter a' l)) sp.2
        ∙ ap (λ l. versions (number s) f' key start l) (filter-append a' pre (x ∷ post))
        ∙ versions-append (number s) f' key start (filter a' pre) (filter a' (x ∷ post))
        ∙ ap (λ u. versions (number s) f' key u (filter a' (x ∷ post))) first
        ∙ ap (λ b. versions (number s) f' key low (cond b (x ∷ filter a' post) (filter a' post))) done
        ∙ later (offered low (number s x) r) in
        let right : version s p ms key ≡ versions (number s) f key low (filter a post)
        = ap (λ l. versions (number s) f key start (filter a l)) sp.2
        ∙ ap (λ l. versions (number s) f key start l) (filter-append a pre (x ∷ post))
        ∙ versions-append (number s) f key start (filter a pre) (filter a (x ∷ post))
        ∙ ap (λ b. versions (number s) f key low (cond b (x ∷ filter a post) (filter a post))) un in
        left
        ∙ offered_last (number s) f key low (number s x) r (filter a post) (λ y j. less_lt (number s x) (number s y) (sides.1 y (filter_in a y post j).0))
        ∙ ap (λ u. offered u (number s x) r) (sym right)

-- rows of versions

-- the row of a key of its own, and else the one that was there
abbrev pub over : Option Row → Option Row → Option Row
over None old = old
over (Some row) old = Some row

pub put_distinct : (rows : Table) (ws : List Keyed) (key : Key) → Distinct ws → put_rows rows ws key ≡ over (row_of ws key) (rows key)
put_distinct rows [] key d = refl
put_distinct rows (w ∷ ws) key d = put_distinct (put_row rows w) ws key d.1 ∙ go (key_eq w.key key) refl
  where
    go : (b : Bool) → key_eq w.key key ≡ b → over (row_of ws key) (cond b (Some w.row) (rows key)) ≡ over (cond b (Some w.row) (row_of ws key)) (rows key)
    go false e = refl
    go true e =
        let is : w.key ≡ key = ⊎_elim (λ t. t.1) (λ t. absurd (not_both (key_eq w.key key) e t.0)) (key_tells w.key key) in
        ap (λ o. over o (Some w.row)) (row_of-none ws key (λ r i k. d.0 r i (k ∙ sym is)))

distinct_part : (parts p : ℕ) (ws : List Keyed) → Distinct ws → Distinct (at_part parts p ws)
distinct_part parts p [] d = tt
distinct_part parts p (w ∷ ws) d = go (eqb (partition_of w.key parts) p) (distinct_part parts p ws d.1)
  where
    go : (b : Bool) → Distinct (at_part parts p ws) → Distinct (cond b (w ∷ at_part parts p ws) (at_part parts p ws))
    go true n = ((λ r i. d.0 r (filter_in (λ (u : Keyed). eqb (partition_of u.key parts) p) r ws i).0), n)
    go false n = n

distinct-append : (xs ys : List Keyed) → Distinct xs → Distinct ys → ((x y : Keyed) → IsIn x xs → IsIn y ys → y.key ≢ x.key) → Distinct (xs ++ ys)
distinct-append [] ys d e h = e
distinct-append (x ∷ xs) ys d e h =
    ((λ y i. ⊎_elim (λ a. d.0 y a) (λ b. h x y (inl refl) b) (in_cases y xs ys i)), distinct-append xs ys d.1 e (λ z y i j. h z y (inr i) j))

-- the version has a number below n
abbrev Under : Option Version → Number → Type 0
Under None n = ⊤
Under (Some v) n = number_lt v.number n ≡ true

abbrev row_in : Option Version → Option Row
row_in v = option_map (λ (u : Version). u.row) v

offered_row : (v : Option Version) (n : Number) (r : Option Row) → Under v n → row_in (offered v n r) ≡ over r (row_in v)
offered_row v n None u = refl
offered_row None n (Some row) u = refl
offered_row (Some w) n (Some row) u = ap (λ b. Some (cond b (numbered n row) w).row) u

under_more : (v : Option Version) (n m : Number) (r : Option Row) → Under v m → number_lt n m ≡ true → Under (offered v n r) m
under_more v n m None u l = u
under_more None n m (Some row) u l = l
under_more (Some w) n m (Some row) u l = go (number_lt w.number n)
  where
    go : (b : Bool) → Under (Some (cond b (numbered n row) w)) m
    go true = l
    go false = u

pub rising_filter : (s : Setting) (f : TxnId → Bool) (xs : List TxnId) → RisingIds s xs → RisingIds s (filter f xs)
rising_filter s f [] r = tt
rising_filter s f (x ∷ xs) r = go (f x) (rising_filter s f xs r.1)
  where
    go : (b : Bool) → RisingIds s (filter f xs) → RisingIds s (cond b (x ∷ filter f xs) (filter f xs))
    go true n = ((λ y i. r.0 y (filter_in f y xs i).0), n)
    go false n = n

versions_rows : (s : Setting) (f : TxnId → List Keyed) (key : Key) (v : Option Version) (rows : Table) (xs : List TxnId) → ((x : TxnId) → Distinct (f x)) → RisingIds s xs → ((x : TxnId) → IsIn x xs → Under v (number s x)) → row_in v ≡ rows key → row_in (versions (number s) f key v xs) ≡ changed f rows xs key
versions_rows s f key v rows [] d r u e = e
versions_rows s f key v rows (x ∷ xs) d r u e =
    versions_rows s f key (offered v (number s x) (row_of (f x) key)) (put_rows rows (f x)) xs d r.1
    (λ y i. under_more v (number s x) (number s y) (row_of (f x) key) (u y (inr i)) (less_lt (number s x) (number s y) (r.0 y i)))
    (offered_row v (number s x) (row_of (f x) key) (u x (inl refl)) ∙ ap (λ o. over (row_of (f x) key) o) e ∙ sym (put_distinct rows (f x) key (d x)))

above_loaded : (n : Number) → 1 ≤ n.n → number_lt loaded_version n ≡ true
above_loaded n h = grind (arith, nat_tests)

under_loaded : (s : Setting) (o : Option Row) (x : TxnId) → Under (option_map loaded o) (number s x)
under_loaded s None x = tt
under_loaded s (Some row) x = above_loaded (number s x) (omega arith)

loaded_row : (o : Option Row) → row_in (option_map loaded o) ≡ o
loaded_row None = refl
loaded_row (Some row) = refl

module _ (c : Config) (w : Workload) (p : ℕ) (ms : List Msg) (key : Key) (config : IsConfig c) (good : IsValid w) where
  pub applied_distinct : (x : TxnId) → Distinct (applied (setting c w) p ms x)
  applied_distinct x =
      let rs : List Keyed = collected (setting c w) ms x in
      distinct_part c.parts p (leaves (effect_in w x rs))
      (distinct-append (written (effect_in w x rs)) (appended (effect_in w x rs)) (workload.distinct c w good x rs) (workload.distinct_appends c w good x rs)
      (λ u r i j is.
      let a = workload.writes c w good x rs u i in
      law.append_unaccessed w good x rs r x (record { key = u.key; mode = a.0 }) (workload.lasts (effect_in w x rs).verdict (effect_in w x rs).appends r j) a.2 (sym is)))

  -- the row of the version is the row at the node
  pub versions_are_rows : option_map (λ (v : Version). v.row) (version (setting c w) p ms key) ≡ now (setting c w) p ms key
  versions_are_rows =
      let s : Setting = setting c w in
      versions_rows s (applied s p ms) key (option_map loaded (s.loaded key)) s.loaded (filter (is_finished s ms) (order s)) applied_distinct
      (rising_filter s (is_finished s ms) (order s) (rising s (calvin.valid c w good config)))
      (λ x i. under_loaded s (s.loaded key) x)
      (loaded_row (s.loaded key))
