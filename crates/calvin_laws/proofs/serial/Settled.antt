-- In a quiet run every transaction is finished at every participant, and the outcome is that of serial execution.
use Rattle.std.proofs.Common.{◌≡◌, ℕ, zero, suc, ◌<◌, ◌≤◌, List, [], ◌∷◌, ◌++◌, length, map, filter, Bool, true, cond, ◌&&◌, ◌||◌, not, eqb, refl, sym, ap, ◌∙◌, subst, inl, inr, ⊎_elim, arith, true≢false}
use Rattle.std.specs.List.{flat_map, list_any, list_all}
use Rattle.std.proofs.lemmas.Bool.Decides.{nat_tests}
use Rattle.std.proofs.lemmas.List.{length-map, append-nil}
use Rattle.deneva_base.specs.declared.keys.Key.{Key}
use Rattle.deneva_base.specs.declared.numbers.TxnId.{TxnId}
use Rattle.deneva_base.specs.Lists.{IsIn}
use Rattle.deneva_base.specs.Keys.{key_eq, id_eq}
use Rattle.deneva_base.specs.declared.rows.Keyed.{Keyed}
use Rattle.deneva_base.specs.Rows.{Rows as Table, row_or_empty}
use Rattle.deneva_base.proofs.Membership.{key_tells, in_right, in_cases, any_found, and_parts, and_true}
use Rattle.server_core.specs.declared.messages.Msg.{Msg}
use Rattle.server_core.specs.declared.messages.Msg.TheVariants.{Tick, Finished}
use Rattle.server_core.specs.declared.messages.Entry.{Entry}
use Rattle.txn_program.specs.Transactions.{reading}
use Rattle.deneva_base.specs.Partitions.{partition_of}
use Rattle.server_core.specs.Runs.{heard}
use Rattle.server_core.proofs.counts.Local.{count_msgs}
use Rattle.server_core.proofs.counts.Prepares.{occurs}
use Rattle.deneva_base.specs.declared.keys.Access.{Access}
use Rattle.server_core.specs.Setting.{Setting, home, home_in, participants_for}
use Rattle.server_core.specs.CalvinScheduler.{participates, collide, clash, has_batch, has_rows, has_finished, as_far, taken, is_finished, unblocked, is_ready, collected, applied, now}
use Rattle.deneva_base.specs.Modes.{writes}
use Rattle.server_core.specs.GlobalOrder.{Slot, slots, epochs, batch, order, before, has_id, number}
use Rattle.server_core.specs.CalvinRuns.{IsRun}
use Rattle.server_core.specs.CalvinProper.{Valid}
use Rattle.server_core.specs.Proper.{ids_in}
use Rattle.server_core.specs.CalvinSerial.{reads_on, serial_step, serial_after, serial_lines, rows_before}
use Rattle.calvin_laws.proofs.serial.SerialTurns.{Known, serial_changes, by_changes, after-append, append-one, collected_is, applied_is}
use Rattle.calvin_laws.proofs.counts.RightMails.{RightMsg, rights, known}
use Rattle.server_core.proofs.values.Values.{find_msg, heard_mail}
use Rattle.server_core.specs.Lines.{ordered_lines, decided_as}
use Rattle.server_core.specs.declared.outcomes.Decided.{Decided}
use Rattle.server_core.proofs.lists.ListTests.{or_left, or_right, not_both, is_or_not, all_from, map_same, in_has, same_number}
use Rattle.calvin_laws.proofs.order.Nodes.{participant_is, access_there, number_is, id_is}
use Rattle.calvin_laws.proofs.order.Orders.{order_once, order_in, in_order, before_split, slot_in}
use Rattle.server_core.proofs.lists.RowFolds.{changed_part, change_cases}
use Rattle.calvin_laws.proofs.counts.Counts.{is_tick, is_done, batch_some, rows_some, done_some, in_occurs}
use Rattle.calvin_laws.proofs.counts.Ledgers.{rows_ledger, done_ledger, batch_ledger, tick_ledger}

as_far_all : {A : Type 0} (f : A → Bool) (xs : List A) → ((x : A) → IsIn x xs → f x ≡ true) → as_far f xs ≡ xs
as_far_all f [] h = refl
as_far_all f (x ∷ xs) h = rw (h x (inl refl)) (ap (λ l. x ∷ l) (as_far_all f xs (λ y i. h y (inr i))))

filter_all : {A : Type 0} (f : A → Bool) (xs : List A) → ((x : A) → IsIn x xs → f x ≡ true) → filter f xs ≡ xs
filter_all f [] h = refl
filter_all f (x ∷ xs) h = rw (h x (inl refl)) (ap (λ l. x ∷ l) (filter_all f xs (λ y i. h y (inr i))))

abbrev line : Setting → TxnId → List Keyed → Decided
line s x rs = decided_as s x (number s x).n rs

-- what its home was sent
abbrev reads_of : Setting → List Entry → TxnId → List Keyed
reads_of s H x = collected s (heard (home s x) H) x

abbrev decided : Setting → List Entry → List TxnId
decided s H = filter (λ x. list_all (has_finished (heard (home s x) H) x) (participants_for s x)) (order s)

module _ (s : Setting) (v : Valid s) where
  pub home_there : (x : TxnId) → IsIn x s.ids → IsIn (home s x) (participants_for s x)
  home_there x i = go (s.accesses x) refl (v.some x i)
    where
      go : (as' : List Access) → s.accesses x ≡ as' → 1 ≤ length as' → IsIn (home_in s.parts as') (participants_for s x)
      go [] e h = absurd (omega arith)
      go (a ∷ as') e h = access_there s v.parts x a (subst (λ l. IsIn a l) (sym e) (inl refl))

  -- the lines of serial execution, each by the rows before its transaction
  lines_are : (pre xs : List TxnId) → order s ≡ pre ++ xs → map (λ x. line s x (reads_on s (rows_before s x) x)) xs ≡ serial_lines s (serial_after s s.loaded pre) xs
  lines_are pre [] e = refl
  lines_are pre (x ∷ xs) e =
      let here : before x (order s) ≡ pre = ap (before x) e ∙ before_split x pre xs (subst (λ l. ids_in x l ≤ 1) e (order_once s v x)) in
      let step : serial_after s s.loaded (pre ++ x ∷ []) ≡ serial_step s (serial_after s s.loaded pre) x = after-append s s.loaded pre (x ∷ []) in
      let next = lines_are (pre ++ x ∷ []) xs (e ∙ append-one x pre xs) in
      ap (λ l. line s x (reads_on s (serial_after s s.loaded l) x) ∷ map (λ y. line s y (reads_on s (rows_before s y) y)) xs) here
      ∙ ap (λ l. line s x (reads_on s (serial_after s s.loaded pre) x) ∷ l) (next ∙ ap (λ r. serial_lines s r xs) step)

  module _ (H : List Entry) (run : IsRun s H []) where
    all_ticks : (e p : ℕ) → e < epochs s → p < s.parts → 1 ≤ count_msgs (is_tick e) (heard p H)
    all_ticks zero p h l = grind (arith, nat_tests, tick_ledger s v H [] run zero p)
    all_ticks (suc d) p h l = grind (arith, nat_tests, tick_ledger s v H [] run (suc d) p, all_ticks d p (omega (arith, h)) l)

    all_batches : (p : ℕ) → p < s.parts → (l : Slot) → IsIn l (slots s) → has_batch (heard p H) l ≡ true
    all_batches p h l i =
        let b = slot_in s l i in
        batch_some (heard p H) l (omega (arith, batch_ledger s v H [] run l p h, all_ticks l.epoch l.seq b.0 b.1))

    all_taken : (p : ℕ) → p < s.parts → taken s (heard p H) ≡ order s
    all_taken p h = ap (flat_map (batch s)) (as_far_all (has_batch (heard p H)) (slots s) (all_batches p h))

    abbrev Done : TxnId → Type 0
    Done x = (p : ℕ) → IsIn p (participants_for s x) → is_finished s (heard p H) x ≡ true

    -- who conflicts at q has an access there
    clash_part : (q : ℕ) (x y : TxnId) → clash s q x y ≡ true → IsIn q (participants_for s y)
    clash_part q x y h =
        let a = any_found (λ c. list_any (collide s.parts q c) (s.accesses y)) (s.accesses x) h in
        let b = any_found (collide s.parts q a.0) (s.accesses y) a.2 in
        let c = and_parts (key_eq a.0.key b.0.key) (eqb (partition_of a.0.key s.parts) q && (writes a.0.mode || writes b.0.mode)) b.2 in
        let d = and_parts (eqb (partition_of a.0.key s.parts) q) (writes a.0.mode || writes b.0.mode) c.1 in
        let same : a.0.key ≡ b.0.key = ⊎_elim (λ t. t.1) (λ t. absurd (not_both (key_eq a.0.key b.0.key) c.0 t.0)) (key_tells a.0.key b.0.key) in
        subst (λ n. IsIn n (participants_for s y)) (ap (λ k. partition_of k s.parts) (sym same) ∙ number_is (partition_of a.0.key s.parts) q d.0) (access_there s v.parts y b.0 b.1)

    next_ready : (pre : List TxnId) (x : TxnId) (post : List TxnId) → order s ≡ pre ++ x ∷ post → ((y : TxnId) → IsIn y pre → Done y) → (q : ℕ) → IsIn q (participants_for s x) → is_ready s q (heard q H) x ≡ true
    next_ready pre x post e done q i =
        let here : before x (order s) ≡ pre = ap (before x) e ∙ before_split x pre post (subst (λ l. ids_in x l ≤ 1) e (order_once s v x)) in
        let part = participant_is s x q i in
        let ordered : has_id x (order s) ≡ true = in_has x (order s) (subst (λ l. IsIn x l) (sym e) (in_right x pre (x ∷ post) (inl refl))) in
        and_true (has_id x (taken s (heard q H))) (participates s x q && unblocked s q (heard q H) x)
        (subst (λ l. has_id x l ≡ true) (sym (all_taken q part.1)) ordered)
        (and_true (participates s x q) (unblocked s q (heard q H) x) part.0
        (all_from (λ y. is_finished s (heard q H) y || not (clash s q x y)) (before x (order s))
        (λ y j. ⊎_elim
        (λ c. or_left (is_finished s (heard q H) y) (not (clash s q x y)) (done y (subst (λ l. IsIn y l) here j) q (clash_part q x y c)))
        (λ n. or_right (is_finished s (heard q H) y) (not (clash s q x y)) (ap not n))
        (is_or_not (clash s q x y)))))

    next_done : (pre : List TxnId) (x : TxnId) (post : List TxnId) → order s ≡ pre ++ x ∷ post → ((y : TxnId) → IsIn y pre → Done y) → Done x
    next_done pre x post e done p i =
        all_from (has_rows (heard p H) x) (participants_for s x)
        (λ q j. rows_some (heard p H) x q
        (omega (arith, rows_ledger s v H [] run x q p, ap {B = ℕ} (λ b. cond b (occurs p (participants_for s x)) 0) (next_ready pre x post e done q j), in_occurs p (participants_for s x) i)))

    done_from : (pre xs : List TxnId) → order s ≡ pre ++ xs → ((y : TxnId) → IsIn y pre → Done y) → (y : TxnId) → IsIn y (pre ++ xs) → Done y
    done_from pre [] e done y i = ⊎_elim (done y) (λ n. absurd n) (in_cases y pre [] i)
    done_from pre (x ∷ xs) e done y i =
        done_from (pre ++ x ∷ []) xs (e ∙ append-one x pre xs)
        (λ z j. ⊎_elim (done z) (λ k. ⊎_elim (λ (is : z ≡ x). subst (λ w. Done w) (sym is) (next_done pre x xs e done)) (λ n. absurd n) k) (in_cases z pre (x ∷ []) j))
        y
        (subst (λ l. IsIn y l) (append-one x pre xs) i)

    -- every transaction is finished at every participant
    pub all_done : (x : TxnId) → IsIn x (order s) → (p : ℕ) → IsIn p (participants_for s x) → is_finished s (heard p H) x ≡ true
    all_done x i = done_from [] (order s) refl (λ y j. absurd j) x i

    -- and its Finished was handled at its home, once
    pub all_told : (x : TxnId) → IsIn x (order s) → (p : ℕ) → IsIn p (participants_for s x) → count_msgs (is_done x p) (heard (home s x) H) ≡ 1
    all_told x i p j =
        omega (
          arith,
          done_ledger s v H [] run x p (home s x) (order_in s x i),
          ap {B = ℕ} (λ b. cond b (cond (eqb (home s x) (home s x)) 1 0) 0) (all_done x i p j),
          ap {B = ℕ} (λ b. cond b 1 0) (same_number (home s x)),
        )

    pub all_decided : decided s H ≡ order s
    all_decided =
        filter_all (λ x. list_all (has_finished (heard (home s x) H) x) (participants_for s x)) (order s)
        (λ x i. all_from (has_finished (heard (home s x) H) x) (participants_for s x) (λ p j. done_some (heard (home s x) H) x p (omega (arith, all_told x i p j))))

    known_at : (p : ℕ) → Known s p (heard p H)
    known_at p = known s H p (λ y i. rights s v H [] run y (inr i))

    pub reads_are : (x : TxnId) → IsIn x (order s) → reads_of s H x ≡ reads_on s (rows_before s x) x
    reads_are x i = collected_is s v (home s x) (heard (home s x) H) (known_at (home s x)) x (all_done x i (home s x) (home_there x (order_in s x i)))

    pub lines_serial : ordered_lines s H ≡ serial_lines s s.loaded (order s)
    lines_serial =
        ap (map (λ x. line s x (reads_of s H x))) all_decided
        ∙ map_same (λ x. line s x (reads_of s H x)) (λ x. line s x (reads_on s (rows_before s x) x)) (order s) (λ x i. ap (line s x) (reads_are x i))
        ∙ lines_are [] (order s) refl

    -- the rows at each node are those of serial execution
    pub node_rows : (p : ℕ) (k : Key) → partition_of k s.parts ≡ p → now s p (heard p H) k ≡ serial_after s s.loaded (order s) k
    node_rows p k e =
        changed_part s.parts p (is_finished s (heard p H)) (applied s p (heard p H)) (serial_changes s v) s.loaded s.loaded (order s) k e refl
        (λ x i. applied_is s v p (heard p H) (known_at p) x)
        (λ x w i un iw is. not_both (is_finished s (heard p H) x) (all_done x i p (subst (λ n. IsIn n (participants_for s x)) (ap (λ z. partition_of z s.parts) is ∙ e) (there x w i iw))) un)
        ∙ ap (λ (t : Table). t k) (sym (by_changes s v [] (order s) [] (sym (append-nil (order s)))))
      where
        there : (x : TxnId) (w : Keyed) → IsIn x (order s) → IsIn w (serial_changes s v x) → IsIn (partition_of w.key s.parts) (participants_for s x)
        there x w i iw =
            ⊎_elim
            (λ c. let a = v.writes x (reads_on s (rows_before s x) x) w (order_in s x i) (length-map (reading (s.accesses x)) (λ a. record { key = a.key; row = row_or_empty (rows_before s x a.key) })) c in subst (λ z. IsIn (partition_of z s.parts) (participants_for s x)) a.2 (access_there s v.parts x a.0 a.1))
            (λ c. (v.appends x (reads_on s (rows_before s x) x) w (order_in s x i) (length-map (reading (s.accesses x)) (λ a. record { key = a.key; row = row_or_empty (rows_before s x a.key) })) c).0)
            (change_cases (s.effect x (reads_on s (rows_before s x) x)) w iw)

    pub told : (x : TxnId) (p : ℕ) → IsIn x s.ids → IsIn p (participants_for s x) → IsIn (Finished x p (number s x)) (heard (home s x) H)
    told x p i j = let f = find_msg (is_done x p) (heard (home s x) H) (omega (arith, all_told x (in_order s v x i) p j)) in which f.0 f.1 f.2
      where
        which : (m : Msg) → IsIn m (heard (home s x) H) → is_done x p m ≡ true → IsIn (Finished x p (number s x)) (heard (home s x) H)
        which (Finished y r k) im e =
            let b = and_parts (id_eq y x) (eqb r p) e in
            let h = heard_mail (home s x) H (Finished y r k) im in
            let g : RightMsg s H h.0.from h.0.to (Finished y r k) = subst (λ z. RightMsg s H h.0.from h.0.to z) h.2 (rights s v H [] run h.0 (inr h.1)) in
            let same : Finished y r k ≡ Finished x p (number s x) = λ c. Finished (id_is y x b.0 c) (number_is r p b.1 c) ((g.4 ∙ ap (number s) (id_is y x b.0)) c) in
            subst (λ z. IsIn z (heard (home s x) H)) same im
        which (Tick d) im e = absurd (true≢false (sym e))
        which m im e = absurd (true≢false (sym e))
