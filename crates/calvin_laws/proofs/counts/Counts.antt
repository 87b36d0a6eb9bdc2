-- How often a node says each kind of message.
use Rattle.std.proofs.Common.{◌≡◌, ◌≢◌, ℕ, zero, suc, ◌+◌, ◌<◌, ◌≤◌, List, [], ◌∷◌, ◌++◌, filter, Bool, true, false, cond, ◌&&◌, ◌||◌, not, eqb, ltb, refl, sym, ap, ◌∙◌, subst, inl, inr, ⊎_elim, arith, true≢false}
use Rattle.std.specs.List.{flat_map, list_all}
use Rattle.std.proofs.lemmas.Bool.Decides.{nat_tests}
use Rattle.deneva_base.specs.declared.numbers.TxnId.{TxnId}
use Rattle.deneva_base.specs.Lists.{IsIn}
use Rattle.deneva_base.specs.declared.rows.Keyed.{Keyed}
use Rattle.calvin_laws.proofs.order.Orders.{ids_filtered}
use Rattle.server_core.specs.declared.messages.Msg.{Msg}
use Rattle.server_core.specs.declared.messages.Msg.TheVariants.{Tick, Batch, Rows, Finished}
use Rattle.txn_program.specs.Transactions.{numbers_below}
use Rattle.server_core.specs.Counts.{all_said, count}
use Rattle.server_core.proofs.counts.Conserved.{count-append}
use Rattle.server_core.proofs.counts.Local.{sent_to, count_msgs}
use Rattle.server_core.proofs.counts.Prepares.{occurs}
use Rattle.server_core.proofs.counts.Ends.{count_all, off_if}
use Rattle.server_core.specs.Setting.{Setting, home, participants_for}
use Rattle.server_core.specs.CalvinScheduler.{participates, has_batch, has_rows, has_finished, as_far, is_finished, is_ready, unblocked, rows_at}
use Rattle.server_core.specs.GlobalOrder.{Slot, slots, epochs, batch, order, number, has_id}
use Rattle.deneva_base.specs.Keys.{id_eq}
use Rattle.server_core.specs.Calvin.{says, became_ready, rows_mails, ready_mails, finished_mail, finished_mails, tick_mail, batch_mails}
use Rattle.server_core.specs.Proper.{ids_in}
use Rattle.server_core.proofs.lists.ListTests.{or_cases, id_tells, id_self, in_has, same_number}
use Rattle.calvin_laws.proofs.order.Nodes.{ready_more, finished_more, ready_is}

abbrev pub is_tick : ℕ → Msg → Bool
is_tick e (Tick d) = eqb d e
is_tick e m = false

abbrev pub is_batch : Slot → Msg → Bool
is_batch l (Batch e q ids) = eqb e l.epoch && eqb q l.seq
is_batch l m = false

abbrev pub is_rows : TxnId → ℕ → Msg → Bool
is_rows x q (Rows y r rows) = id_eq y x && eqb r q
is_rows x q m = false

abbrev pub is_done : TxnId → ℕ → Msg → Bool
is_done x q (Finished y r number) = id_eq y x && eqb r q
is_done x q m = false

-- none or some of them came

pub batch_none : (ms : List Msg) (l : Slot) → count_msgs (is_batch l) ms ≡ 0 → has_batch ms l ≡ false
batch_none [] l h = refl
batch_none (Batch e q ids ∷ ms) l h = grind (arith, batch_none ms l)
batch_none (Tick e ∷ ms) l h = batch_none ms l (omega (arith, h))
batch_none (m ∷ ms) l h = batch_none ms l (omega (arith, h))

pub batch_some : (ms : List Msg) (l : Slot) → 1 ≤ count_msgs (is_batch l) ms → has_batch ms l ≡ true
batch_some [] l h = absurd (omega arith)
batch_some (Batch e q ids ∷ ms) l h = grind (arith, batch_some ms l)
batch_some (Tick e ∷ ms) l h = batch_some ms l (omega (arith, h))
batch_some (m ∷ ms) l h = batch_some ms l (omega (arith, h))

pub rows_none : (ms : List Msg) (x : TxnId) (q : ℕ) → count_msgs (is_rows x q) ms ≡ 0 → has_rows ms x q ≡ false
rows_none [] x q h = refl
rows_none (Rows y r rows ∷ ms) x q h = grind (arith, rows_none ms x q)
rows_none (Tick e ∷ ms) x q h = rows_none ms x q (omega (arith, h))
rows_none (m ∷ ms) x q h = rows_none ms x q (omega (arith, h))

pub rows_some : (ms : List Msg) (x : TxnId) (q : ℕ) → 1 ≤ count_msgs (is_rows x q) ms → has_rows ms x q ≡ true
rows_some [] x q h = absurd (omega arith)
rows_some (Rows y r rows ∷ ms) x q h = grind (arith, rows_some ms x q)
rows_some (Tick e ∷ ms) x q h = rows_some ms x q (omega (arith, h))
rows_some (m ∷ ms) x q h = rows_some ms x q (omega (arith, h))

pub done_none : (ms : List Msg) (x : TxnId) (q : ℕ) → count_msgs (is_done x q) ms ≡ 0 → has_finished ms x q ≡ false
done_none [] x q h = refl
done_none (Finished y r n ∷ ms) x q h = grind (arith, done_none ms x q)
done_none (Tick e ∷ ms) x q h = done_none ms x q (omega (arith, h))
done_none (m ∷ ms) x q h = done_none ms x q (omega (arith, h))

pub done_some : (ms : List Msg) (x : TxnId) (q : ℕ) → 1 ≤ count_msgs (is_done x q) ms → has_finished ms x q ≡ true
done_some [] x q h = absurd (omega arith)
done_some (Finished y r n ∷ ms) x q h = grind (arith, done_some ms x q)
done_some (Tick e ∷ ms) x q h = done_some ms x q (omega (arith, h))
done_some (m ∷ ms) x q h = done_some ms x q (omega (arith, h))

pub occurs-append : (q : ℕ) (xs ys : List ℕ) → occurs q (xs ++ ys) ≡ occurs q xs + occurs q ys
occurs-append q [] ys = omega arith
occurs-append q (x ∷ xs) ys = omega (arith, occurs-append q xs ys)

pub occurs_below : (q n : ℕ) → occurs q (numbers_below n) ≡ cond (ltb q n) 1 0
occurs_below q zero = grind (arith, nat_tests)
occurs_below q (suc n) = grind (arith, nat_tests, occurs-append q (numbers_below n) (n ∷ []), occurs_below q n)

pub occurs_filter : (q : ℕ) (p : ℕ → Bool) (xs : List ℕ) → occurs q (filter p xs) ≤ occurs q xs
occurs_filter q p [] = omega arith
occurs_filter q p (x ∷ xs) = grind (arith, occurs_filter q p xs)

pub occurs_once : (s : Setting) (x : TxnId) (q : ℕ) → occurs q (participants_for s x) ≤ 1
occurs_once s x q = grind (arith, occurs_filter q (participates s x) (numbers_below s.parts), occurs_below q s.parts)

pub in_occurs : (q : ℕ) (xs : List ℕ) → IsIn q xs → 1 ≤ occurs q xs
in_occurs q [] i = absurd i
in_occurs q (x ∷ xs) i = ⊎_elim (λ (is : q ≡ x). let e : eqb x q ≡ true = subst (λ z. eqb z q ≡ true) is (same_number q) in rw e (omega arith)) (λ r. omega (arith, in_occurs q xs r)) i

module _ (s : Setting) where
  -- one more message
  pub more_said : (p q : ℕ) (t : Msg → Bool) (m : Msg) (ms : List Msg) → count (sent_to q t) (all_said (says s) p (m ∷ ms)) ≡ count (sent_to q t) (says s p (m ∷ ms)) + count (sent_to q t) (all_said (says s) p ms)
  more_said p q t m ms = count-append (sent_to q t) (says s p (m ∷ ms)) (all_said (says s) p ms)

  -- Rows of x

  one_rows : (p q : ℕ) (x y : TxnId) (ms : List Msg) → count (sent_to q (is_rows x p)) (rows_mails s p ms y) ≡ cond (id_eq y x) (occurs q (participants_for s x)) 0
  one_rows p q x y ms =
      count_all (is_rows x p) p q (Rows y p (rows_at s p ms y)) (participants_for s y)
      ∙ ⊎_elim
      (λ (t : (id_eq y x ≡ true) × (y ≡ x)). rw (t.0, same_number p) (ap (λ z. occurs q (participants_for s z)) t.1))
      (λ (t : (id_eq y x ≡ false) × (y ≢ x)). rw t.0 refl)
      (id_tells y x)

  rows_among : (p q : ℕ) (x : TxnId) (ms : List Msg) (xs : List TxnId) → ids_in x xs ≤ 1 → count (sent_to q (is_rows x p)) (flat_map (rows_mails s p ms) xs) ≡ cond (has_id x xs) (occurs q (participants_for s x)) 0
  rows_among p q x ms [] h = refl
  rows_among p q x ms (y ∷ xs) h =
      let a = count-append (sent_to q (is_rows x p)) (rows_mails s p ms y) (flat_map (rows_mails s p ms) xs) in
      let b = one_rows p q x y ms in
      let ih = rows_among p q x ms xs (omega (arith, h)) in
      ⊎_elim
      (λ (t : (id_eq y x ≡ true) × (y ≢ x → ⊥)). let none : has_id x xs ≡ false = off_if (has_id x xs) (λ e. absurd (more xs e (omega (arith, h, ap {B = ℕ} (λ c. cond c 1 0) t.0)))) in grind (arith, a, b, ih, t.0, none))
      (λ (t : id_eq y x ≡ false). grind (arith, a, b, ih, t))
      (⊎_elim (λ t. inl (t.0, λ n. n t.1)) (λ t. inr t.0) (id_tells y x))
    where
      more : (zs : List TxnId) → has_id x zs ≡ true → ids_in x zs ≡ 0 → ⊥
      more [] e f = true≢false (sym e)
      more (z ∷ zs) e f =
          ⊎_elim
          (λ (t : id_eq z x ≡ true). omega (arith, f, ap {B = ℕ} (λ c. cond c 1 0) t))
          (λ t. more zs t (omega (arith, f)))
          (or_cases (id_eq z x) (has_id x zs) e)

  has_filter : (x : TxnId) (f : TxnId → Bool) (xs : List TxnId) → has_id x (filter f xs) ≡ (f x && has_id x xs)
  has_filter x f [] = grind arith
  has_filter x f (y ∷ xs) =
      ⊎_elim
      (λ (t : (id_eq y x ≡ true) × (y ≡ x)). subst (λ z. has_id z (filter f (y ∷ xs)) ≡ (f z && has_id z (y ∷ xs))) t.1 (own (f y) refl (subst (λ z. has_id z (filter f xs) ≡ (f z && has_id z xs)) (sym t.1) (has_filter x f xs))))
      (λ (t : (id_eq y x ≡ false) × (y ≢ x)). other t.0 (f y) (has_filter x f xs))
      (id_tells y x)
    where
      own : (b : Bool) → f y ≡ b → has_id y (filter f xs) ≡ (f y && has_id y xs) → has_id y (cond (f y) (y ∷ filter f xs) (filter f xs)) ≡ (f y && (id_eq y y || has_id y xs))
      own true e ih = rw (e, id_self y) refl
      own false e ih = rw e (ih ∙ ap (λ b. b && has_id y xs) e)

      other : id_eq y x ≡ false → (b : Bool) → has_id x (filter f xs) ≡ (f x && has_id x xs) → has_id x (cond b (y ∷ filter f xs) (filter f xs)) ≡ (f x && (id_eq y x || has_id x xs))
      other e true ih = rw e ih
      other e false ih = rw e ih

  fresh_of : (p : ℕ) (x : TxnId) (m : Msg) (ms : List Msg) → has_id x (became_ready s p m ms) ≡ (is_ready s p (m ∷ ms) x && not (is_ready s p ms x))
  fresh_of p x m ms =
      has_filter x (λ z. is_ready s p (m ∷ ms) z && not (is_ready s p ms z)) (order s)
      ∙ go (is_ready s p (m ∷ ms) x) refl (not (is_ready s p ms x))
    where
      go : (b : Bool) → is_ready s p (m ∷ ms) x ≡ b → (c : Bool) → ((b && c) && has_id x (order s)) ≡ (b && c)
      go true e true = in_has x (order s) (ready_is s p (m ∷ ms) x e).ordered
      go true e false = refl
      go false e c = refl

  ready_rows : (p q : ℕ) (x : TxnId) (m : Msg) (ms : List Msg) → ids_in x (order s) ≤ 1 → count (sent_to q (is_rows x p)) (ready_mails s p m ms) ≡ cond (is_ready s p (m ∷ ms) x && not (is_ready s p ms x)) (occurs q (participants_for s x)) 0
  ready_rows p q x m ms h =
      rows_among p q x (m ∷ ms) (became_ready s p m ms) (omega (arith, h, ids_filtered x (λ z. is_ready s p (m ∷ ms) z && not (is_ready s p ms z)) (order s)))
      ∙ ap (λ b. cond b (occurs q (participants_for s x)) 0) (fresh_of p x m ms)

  both_off : (b : Bool) (n : ℕ) → cond (b && not b) n 0 ≡ 0
  both_off true n = refl
  both_off false n = refl

  finished_rows : (p q : ℕ) (x y : TxnId) (m : Msg) (ms : List Msg) → count (sent_to q (is_rows x p)) (finished_mails s p y m ms) ≡ 0
  finished_rows p q x y m ms = go (is_finished s (m ∷ ms) y && not (is_finished s ms y))
    where
      go : (b : Bool) → count (sent_to q (is_rows x p)) (cond b (finished_mail s p y ∷ []) []) ≡ 0
      go true = omega arith
      go false = refl

  tick_rest : (t : Msg → Bool) (q p e : ℕ) (b : Bool) → t (Tick e) ≡ false → count (sent_to q t) (cond b (tick_mail p e ∷ []) []) ≡ 0
  tick_rest t q p e true h = rw h (omega arith)
  tick_rest t q p e false h = refl

  rows_step : (p q : ℕ) (x : TxnId) (m : Msg) (ms : List Msg) → ids_in x (order s) ≤ 1 → count (sent_to q (is_rows x p)) (says s p (m ∷ ms)) ≡ cond (is_ready s p (m ∷ ms) x && not (is_ready s p ms x)) (occurs q (participants_for s x)) 0
  rows_step p q x (Tick e) ms h =
      let a = count-append (sent_to q (is_rows x p)) (batch_mails s p e) (cond (ltb (suc e) (epochs s)) (tick_mail p (suc e) ∷ []) []) in
      let b = count_all (is_rows x p) p q (Batch e p (batch s (record { epoch = e; seq = p }))) (numbers_below s.parts) in
      let c = tick_rest (is_rows x p) q p (suc e) (ltb (suc e) (epochs s)) refl in
      omega (arith, a, b, c, both_off (is_ready s p ms x) (occurs q (participants_for s x)))
  rows_step p q x (Batch e r ids) ms h = ready_rows p q x (Batch e r ids) ms h
  rows_step p q x (Rows y r rows) ms h =
      omega (
        arith,
        count-append (sent_to q (is_rows x p)) (finished_mails s p y (Rows y r rows) ms) (ready_mails s p (Rows y r rows) ms),
        finished_rows p q x y (Rows y r rows) ms,
        ready_rows p q x (Rows y r rows) ms h,
      )
  rows_step p q x (Finished y r n) ms h = sym (both_off (is_ready s p ms x) (occurs q (participants_for s x)))
  rows_step p q x m ms h = sym (both_off (is_ready s p ms x) (occurs q (participants_for s x)))

  none_ready : (p : ℕ) (x : TxnId) → is_ready s p [] x ≡ false
  none_ready p x = ap (λ (l : List Slot). has_id x (flat_map (batch s) l) && (participates s x p && unblocked s p [] x)) (none (slots s))
    where
      none : (ls : List Slot) → as_far (has_batch []) ls ≡ []
      none [] = refl
      none (l ∷ ls) = refl

  growing : (a b : Bool) (n k : ℕ) → (b ≡ true → a ≡ true) → k ≡ cond b n 0 → cond (a && not b) n 0 + k ≡ cond a n 0
  growing true true n k h e = omega (arith, e)
  growing true false n k h e = omega (arith, e)
  growing false true n k h e = absurd (true≢false (sym (h refl)))
  growing false false n k h e = omega (arith, e)

  -- the Rows of each transaction are said once to each participant, when it has become ready
  pub rows_said : (p q : ℕ) (x : TxnId) (ms : List Msg) → ids_in x (order s) ≤ 1 → count (sent_to q (is_rows x p)) (all_said (says s) p ms) ≡ cond (is_ready s p ms x) (occurs q (participants_for s x)) 0
  rows_said p q x [] h = let e = none_ready p x in rw e refl
  rows_said p q x (m ∷ ms) h =
      more_said p q (is_rows x p) m ms
      ∙ ap (λ n. n + count (sent_to q (is_rows x p)) (all_said (says s) p ms)) (rows_step p q x m ms h)
      ∙ growing (is_ready s p (m ∷ ms) x) (is_ready s p ms x) (occurs q (participants_for s x)) (count (sent_to q (is_rows x p)) (all_said (says s) p ms)) (ready_more s p m ms x) (rows_said p q x ms h)

  -- Finished of x

  ready_other : (p q : ℕ) (t : Msg → Bool) (m : Msg) (ms : List Msg) → ((y : TxnId) (rows : List Keyed) → t (Rows y p rows) ≡ false) → (xs : List TxnId) → count (sent_to q t) (flat_map (rows_mails s p (m ∷ ms)) xs) ≡ 0
  ready_other p q t m ms h [] = refl
  ready_other p q t m ms h (y ∷ xs) =
      omega (
        arith,
        count-append (sent_to q t) (rows_mails s p (m ∷ ms) y) (flat_map (rows_mails s p (m ∷ ms)) xs),
        count_all t p q (Rows y p (rows_at s p (m ∷ ms) y)) (participants_for s y),
        ap {B = ℕ} (λ b. cond b (occurs q (participants_for s y)) 0) (h y (rows_at s p (m ∷ ms) y)),
        ready_other p q t m ms h xs,
      )

  same_finished : (x y : TxnId) (r : ℕ) (rows : List Keyed) (ms : List Msg) → id_eq y x ≡ false → is_finished s (Rows y r rows ∷ ms) x ≡ is_finished s ms x
  same_finished x y r rows ms e = ap (λ b. list_all (λ q. (b && eqb r q) || has_rows ms x q) (participants_for s x)) e

  done_mails : (p q : ℕ) (x y : TxnId) (r : ℕ) (rows : List Keyed) (ms : List Msg) → count (sent_to q (is_done x p)) (finished_mails s p y (Rows y r rows) ms) ≡ cond (is_finished s (Rows y r rows ∷ ms) x && not (is_finished s ms x)) (cond (eqb (home s x) q) 1 0) 0
  done_mails p q x y r rows ms =
      ⊎_elim
      (λ (t : (id_eq y x ≡ true) × (y ≡ x)). subst (λ z. count (sent_to q (is_done z p)) (finished_mails s p y (Rows y r rows) ms) ≡ cond (is_finished s (Rows y r rows ∷ ms) z && not (is_finished s ms z)) (cond (eqb (home s z) q) 1 0) 0) t.1 (own (is_finished s (Rows y r rows ∷ ms) y && not (is_finished s ms y))))
      (λ (t : (id_eq y x ≡ false) × (y ≢ x)). other t.0 (is_finished s (Rows y r rows ∷ ms) y && not (is_finished s ms y)) ∙ sym (both_off (is_finished s ms x) (cond (eqb (home s x) q) 1 0)) ∙ ap (λ b. cond (b && not (is_finished s ms x)) (cond (eqb (home s x) q) 1 0) 0) (sym (same_finished x y r rows ms t.0)))
      (id_tells y x)
    where
      own : (b : Bool) → count (sent_to q (is_done y p)) (cond b (finished_mail s p y ∷ []) []) ≡ cond b (cond (eqb (home s y) q) 1 0) 0
      own true = rw (id_self y, same_number p) (go (eqb (home s y) q))
        where
          go : (c : Bool) → cond c 1 0 + 0 ≡ cond c 1 0
          go true = omega arith
          go false = omega arith
      own false = refl

      other : id_eq y x ≡ false → (b : Bool) → count (sent_to q (is_done x p)) (cond b (finished_mail s p y ∷ []) []) ≡ 0
      other e true = rw e (omega arith)
      other e false = refl

  done_step : (p q : ℕ) (x : TxnId) (m : Msg) (ms : List Msg) → count (sent_to q (is_done x p)) (says s p (m ∷ ms)) ≡ cond (is_finished s (m ∷ ms) x && not (is_finished s ms x)) (cond (eqb (home s x) q) 1 0) 0
  done_step p q x (Tick e) ms =
      let a = count-append (sent_to q (is_done x p)) (batch_mails s p e) (cond (ltb (suc e) (epochs s)) (tick_mail p (suc e) ∷ []) []) in
      let b = count_all (is_done x p) p q (Batch e p (batch s (record { epoch = e; seq = p }))) (numbers_below s.parts) in
      let c = tick_rest (is_done x p) q p (suc e) (ltb (suc e) (epochs s)) refl in
      omega (arith, a, b, c, both_off (is_finished s ms x) (cond (eqb (home s x) q) 1 0))
  done_step p q x (Batch e r ids) ms =
      ready_other p q (is_done x p) (Batch e r ids) ms (λ y rows. refl) (became_ready s p (Batch e r ids) ms) ∙ sym (both_off (is_finished s ms x) (cond (eqb (home s x) q) 1 0))
  done_step p q x (Rows y r rows) ms =
      omega (
        arith,
        count-append (sent_to q (is_done x p)) (finished_mails s p y (Rows y r rows) ms) (ready_mails s p (Rows y r rows) ms),
        done_mails p q x y r rows ms,
        ready_other p q (is_done x p) (Rows y r rows) ms (λ z rs. refl) (became_ready s p (Rows y r rows) ms),
      )
  done_step p q x (Finished y r n) ms = sym (both_off (is_finished s ms x) (cond (eqb (home s x) q) 1 0))
  done_step p q x m ms = sym (both_off (is_finished s ms x) (cond (eqb (home s x) q) 1 0))

  -- and its Finished once to its home, when the Rows of all participants have come
  pub done_said : (p q : ℕ) (x : TxnId) (ms : List Msg) → is_finished s [] x ≡ false → count (sent_to q (is_done x p)) (all_said (says s) p ms) ≡ cond (is_finished s ms x) (cond (eqb (home s x) q) 1 0) 0
  done_said p q x [] h = rw h refl
  done_said p q x (m ∷ ms) h =
      more_said p q (is_done x p) m ms
      ∙ ap (λ n. n + count (sent_to q (is_done x p)) (all_said (says s) p ms)) (done_step p q x m ms)
      ∙ growing (is_finished s (m ∷ ms) x) (is_finished s ms x) (cond (eqb (home s x) q) 1 0) (count (sent_to q (is_done x p)) (all_said (says s) p ms)) (finished_more s m ms x) (done_said p q x ms h)

  -- Batch and Tick

  batch_step : (p q : ℕ) (l : Slot) (m : Msg) (ms : List Msg) → l.seq ≡ p → q < s.parts → count (sent_to q (is_batch l)) (says s p (m ∷ ms)) ≡ cond (is_tick l.epoch m) 1 0
  batch_step p q l (Tick e) ms is h =
      let a = count-append (sent_to q (is_batch l)) (batch_mails s p e) (cond (ltb (suc e) (epochs s)) (tick_mail p (suc e) ∷ []) []) in
      let b = count_all (is_batch l) p q (Batch e p (batch s (record { epoch = e; seq = p }))) (numbers_below s.parts) in
      let c = tick_rest (is_batch l) q p (suc e) (ltb (suc e) (epochs s)) refl in
      let d : eqb p l.seq ≡ true = subst (λ n. eqb p n ≡ true) (sym is) (same_number p) in
      grind (arith, nat_tests, a, b, c, d, occurs_below q s.parts)
  batch_step p q l (Batch e r ids) ms is h = ready_other p q (is_batch l) (Batch e r ids) ms (λ y rows. refl) (became_ready s p (Batch e r ids) ms)
  batch_step p q l (Rows y r rows) ms is h =
      omega (
        arith,
        count-append (sent_to q (is_batch l)) (finished_mails s p y (Rows y r rows) ms) (ready_mails s p (Rows y r rows) ms),
        go (is_finished s (Rows y r rows ∷ ms) y && not (is_finished s ms y)),
        ready_other p q (is_batch l) (Rows y r rows) ms (λ z rs. refl) (became_ready s p (Rows y r rows) ms),
      )
    where
      go : (b : Bool) → count (sent_to q (is_batch l)) (cond b (finished_mail s p y ∷ []) []) ≡ 0
      go true = omega arith
      go false = refl
  batch_step p q l (Finished y r n) ms is h = refl
  batch_step p q l m ms is h = refl

  pub batches_said : (p q : ℕ) (l : Slot) (ms : List Msg) → l.seq ≡ p → q < s.parts → count (sent_to q (is_batch l)) (all_said (says s) p ms) ≡ count_msgs (is_tick l.epoch) ms
  batches_said p q l [] is h = refl
  batches_said p q l (m ∷ ms) is h = omega (arith, more_said p q (is_batch l) m ms, batch_step p q l m ms is h, batches_said p q l ms is h)

  -- the Ticks that a Tick brings
  abbrev pub next_tick : ℕ → List Msg → ℕ
  next_tick zero ms = 0
  next_tick (suc d) ms = cond (ltb (suc d) (epochs s)) (count_msgs (is_tick d) ms) 0

  tick_step : (p e : ℕ) (m : Msg) (ms : List Msg) → count (sent_to p (is_tick e)) (says s p (m ∷ ms)) + next_tick e ms ≡ next_tick e (m ∷ ms)
  tick_step p e (Tick d) ms =
      let a = count-append (sent_to p (is_tick e)) (batch_mails s p d) (cond (ltb (suc d) (epochs s)) (tick_mail p (suc d) ∷ []) []) in
      let b = count_all (is_tick e) p p (Batch d p (batch s (record { epoch = d; seq = p }))) (numbers_below s.parts) in
      omega (arith, a, b, go e)
    where
      go : (e : ℕ) → count (sent_to p (is_tick e)) (cond (ltb (suc d) (epochs s)) (tick_mail p (suc d) ∷ []) []) + next_tick e ms ≡ next_tick e (Tick d ∷ ms)
      go zero = grind (arith, nat_tests)
      go (suc c) = grind (arith, nat_tests, same_number p)
  tick_step p e (Batch d r ids) ms = omega (arith, ready_other p p (is_tick e) (Batch d r ids) ms (λ y rows. refl) (became_ready s p (Batch d r ids) ms), same e)
    where
      same : (e : ℕ) → next_tick e (Batch d r ids ∷ ms) ≡ next_tick e ms
      same zero = refl
      same (suc c) = grind arith
  tick_step p e (Rows y r rows) ms =
      omega (
        arith,
        count-append (sent_to p (is_tick e)) (finished_mails s p y (Rows y r rows) ms) (ready_mails s p (Rows y r rows) ms),
        go (is_finished s (Rows y r rows ∷ ms) y && not (is_finished s ms y)),
        ready_other p p (is_tick e) (Rows y r rows) ms (λ z rs. refl) (became_ready s p (Rows y r rows) ms),
        same e,
      )
    where
      go : (b : Bool) → count (sent_to p (is_tick e)) (cond b (finished_mail s p y ∷ []) []) ≡ 0
      go true = omega arith
      go false = refl

      same : (e : ℕ) → next_tick e (Rows y r rows ∷ ms) ≡ next_tick e ms
      same zero = refl
      same (suc c) = grind arith
  tick_step p zero m ms = refl
  tick_step p (suc c) m ms = grind arith

  pub ticks_said : (p e : ℕ) (ms : List Msg) → count (sent_to p (is_tick e)) (all_said (says s) p ms) ≡ next_tick e ms
  ticks_said p e [] = none e
    where
      none : (e : ℕ) → 0 ≡ next_tick e []
      none zero = refl
      none (suc c) = grind arith
  ticks_said p e (m ∷ ms) = omega (arith, more_said p p (is_tick e) m ms, tick_step p e m ms, ticks_said p e ms)
