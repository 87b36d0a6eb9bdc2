-- For each kind of mail: in flight and handled are in the opening and said.
use Rattle.std.proofs.Common.{◌≡◌, ◌≢◌, ℕ, zero, suc, ◌+◌, ◌<◌, ◌≤◌, List, [], ◌∷◌, length, map, Bool, true, false, cond, ◌&&◌, not, eqb, ltb, refl, sym, ap, ◌∙◌, subst, inl, ⊎_elim, arith, true≢false}
use Rattle.std.specs.List.{list_all}
use Rattle.std.proofs.lemmas.Bool.Decides.{nat_tests, eqb_tells}
use Rattle.deneva_base.specs.declared.numbers.TxnId.{TxnId}
use Rattle.deneva_base.specs.declared.numbers.Number.{Number}
use Rattle.deneva_base.specs.Lists.{IsIn}
use Rattle.deneva_base.specs.declared.rows.Keyed.{Keyed}
use Rattle.deneva_base.proofs.Membership.{in_right}
use Rattle.server_core.specs.declared.messages.Msg.{Msg}
use Rattle.server_core.specs.declared.messages.Msg.TheVariants.{Tick, Batch, Rows, Finished}
use Rattle.server_core.specs.declared.messages.Mail.{Mail}
use Rattle.server_core.specs.declared.messages.Entry.{Entry}
use Rattle.txn_program.specs.Transactions.{numbers_below}
use Rattle.server_core.specs.Runs.{heard}
use Rattle.server_core.specs.Counts.{all_said, count}
use Rattle.server_core.proofs.counts.Conserved.{count-append, count_in}
use Rattle.server_core.proofs.counts.Local.{sent_to, count_msgs, ledger}
use Rattle.server_core.proofs.counts.Prepares.{occurs}
use Rattle.server_core.proofs.counts.Ends.{count_all, off_if}
use Rattle.deneva_base.specs.declared.keys.Access.{Access}
use Rattle.deneva_base.specs.Partitions.{partition_of}
use Rattle.server_core.specs.Setting.{Setting, home, participants_for}
use Rattle.server_core.specs.GlobalOrder.{Slot, epochs, batch, number}
use Rattle.deneva_base.specs.Keys.{id_eq}
use Rattle.server_core.specs.CalvinScheduler.{ticks, has_rows, is_finished, is_ready, rows_at}
use Rattle.server_core.specs.Calvin.{says, opening, became_ready, rows_mails, ready_mails, finished_mail, finished_mails, tick_mail, batch_mails}
use Rattle.server_core.specs.CalvinRuns.{IsRun}
use Rattle.server_core.specs.CalvinProper.{Valid}
use Rattle.server_core.proofs.lists.ListTests.{same_number}
use Rattle.calvin_laws.proofs.order.Orders.{order_once}
use Rattle.calvin_laws.proofs.order.Nodes.{access_there}
use Rattle.calvin_laws.proofs.counts.Counts.{is_tick, is_batch, is_rows, is_done, more_said, rows_said, done_said, batches_said, ticks_said, next_tick, occurs_below}

and_off : (a b : Bool) → b ≡ false → (a && b) ≡ false
and_off true b e = e
and_off false b e = refl

other_off : (p q : ℕ) → p ≢ q → eqb p q ≡ false
other_off p q ne = off_if (eqb p q) (λ e. ⊎_elim (λ t. ne t.1) (λ t. true≢false (sym e ∙ t.0)) (eqb_tells p q))

-- p says no message that passes to q
record Silent (t : Msg → Bool) (p q : ℕ) : Type 0 where
  rows : (y : TxnId) (rs : List Keyed) → t (Rows y p rs) ≡ false
  done : (y : TxnId) (n : Number) → t (Finished y p n) ≡ false
  batch : (e : ℕ) (ids : List TxnId) → t (Batch e p ids) ≡ false
  tick : (e : ℕ) → (t (Tick e) && eqb p q) ≡ false

module _ (s : Setting) where
  silent_rows : (t : Msg → Bool) (p q : ℕ) → Silent t p q → (ms : List Msg) (xs : List TxnId) → count (sent_to q t) (Rattle.std.specs.List.flat_map (rows_mails s p ms) xs) ≡ 0
  silent_rows t p q h ms [] = refl
  silent_rows t p q h ms (y ∷ xs) =
      omega (
        arith,
        count-append (sent_to q t) (rows_mails s p ms y) (Rattle.std.specs.List.flat_map (rows_mails s p ms) xs),
        count_all t p q (Rows y p (rows_at s p ms y)) (participants_for s y),
        ap {B = ℕ} (λ b. cond b (occurs q (participants_for s y)) 0) (h.rows y (rows_at s p ms y)),
        silent_rows t p q h ms xs,
      )

  silent_step : (t : Msg → Bool) (p q : ℕ) → Silent t p q → (m : Msg) (ms : List Msg) → count (sent_to q t) (says s p (m ∷ ms)) ≡ 0
  silent_step t p q h (Tick e) ms =
      omega (
        arith,
        count-append (sent_to q t) (batch_mails s p e) (cond (ltb (suc e) (epochs s)) (tick_mail p (suc e) ∷ []) []),
        count_all t p q (Batch e p (batch s (record { epoch = e; seq = p }))) (numbers_below s.parts),
        ap {B = ℕ} (λ b. cond b (occurs q (numbers_below s.parts)) 0) (h.batch e (batch s (record { epoch = e; seq = p }))),
        go (ltb (suc e) (epochs s)),
      )
    where
      go : (b : Bool) → count (sent_to q t) (cond b (tick_mail p (suc e) ∷ []) []) ≡ 0
      go true = rw (h.tick (suc e)) (omega arith)
      go false = refl
  silent_step t p q h (Batch e r ids) ms = silent_rows t p q h (Batch e r ids ∷ ms) (became_ready s p (Batch e r ids) ms)
  silent_step t p q h (Rows y r rows) ms =
      omega (
        arith,
        count-append (sent_to q t) (finished_mails s p y (Rows y r rows) ms) (ready_mails s p (Rows y r rows) ms),
        go (is_finished s (Rows y r rows ∷ ms) y && not (is_finished s ms y)),
        silent_rows t p q h (Rows y r rows ∷ ms) (became_ready s p (Rows y r rows) ms),
      )
    where
      go : (b : Bool) → count (sent_to q t) (cond b (finished_mail s p y ∷ []) []) ≡ 0
      go true = rw (h.done y (number s y)) (omega arith)
      go false = refl
  silent_step t p q h (Finished y r n) ms = refl
  silent_step t p q h m ms = refl

  silent : (t : Msg → Bool) (p q : ℕ) → Silent t p q → (ms : List Msg) → count (sent_to q t) (all_said (says s) p ms) ≡ 0
  silent t p q h [] = refl
  silent t p q h (m ∷ ms) = omega (arith, more_said s p q t m ms, silent_step t p q h m ms, silent t p q h ms)

  ticks_in : (t : Msg → Bool) (q : ℕ) (ps : List ℕ) → count (sent_to q t) (map (λ p. tick_mail p 0) ps) ≡ cond (t (Tick 0)) (occurs q ps) 0
  ticks_in t q [] = grind arith
  ticks_in t q (p ∷ ps) = grind (arith, nat_tests, ticks_in t q ps)

  opening_count : (t : Msg → Bool) (q : ℕ) → count (sent_to q t) (opening s) ≡ cond (ltb 0 (epochs s) && t (Tick 0)) (cond (ltb q s.parts) 1 0) 0
  opening_count t q = go (ltb 0 (epochs s))
    where
      go : (b : Bool) → count (sent_to q t) (cond b (map (λ p. tick_mail p 0) (numbers_below s.parts)) []) ≡ cond (b && t (Tick 0)) (cond (ltb q s.parts) 1 0) 0
      go true = ticks_in t q (numbers_below s.parts) ∙ ap (λ n. cond (t (Tick 0)) n 0) (occurs_below q s.parts)
      go false = refl

  off_end : (b : Bool) (n : ℕ) → cond (b && false) n 0 ≡ 0
  off_end true n = refl
  off_end false n = refl

  pub none_finished : Valid s → (x : TxnId) → IsIn x s.ids → is_finished s [] x ≡ false
  none_finished v x i = go (s.accesses x) refl (v.some x i)
    where
      all_none : (q : ℕ) (qs : List ℕ) → IsIn q qs → list_all (has_rows [] x) qs ≡ false
      all_none q [] j = absurd j
      all_none q (r ∷ qs) j = refl

      go : (as' : List Access) → s.accesses x ≡ as' → 1 ≤ length as' → is_finished s [] x ≡ false
      go [] e h = absurd (omega arith)
      go (a ∷ as') e h = let j = access_there s v.parts x a (subst (λ l. IsIn a l) (sym e) (inl refl)) in all_none (partition_of a.key s.parts) (participants_for s x) j

  module _ (v : Valid s) (H : List Entry) (flight : List Mail) (run : IsRun s H flight) where
    pub rows_ledger : (x : TxnId) (f p : ℕ) → count (sent_to p (is_rows x f)) flight + count_msgs (is_rows x f) (heard p H) ≡ cond (is_ready s f (heard f H) x) (occurs p (participants_for s x)) 0
    rows_ledger x f p =
        omega (
          arith,
          ledger (says s) (opening s) (is_rows x f) f p H flight run
              (λ r ne. silent (is_rows x f) r p (record { rows = λ y rs. and_off (id_eq y x) (eqb r f) (other_off r f ne); done = λ y n. refl; batch = λ e ids. refl; tick = λ e. refl }) (heard r H)),
          opening_count (is_rows x f) p,
          off_end (ltb 0 (epochs s)) (cond (ltb p s.parts) 1 0),
          rows_said s f p x (heard f H) (order_once s v x),
        )

    pub done_ledger : (x : TxnId) (f p : ℕ) → IsIn x s.ids → count (sent_to p (is_done x f)) flight + count_msgs (is_done x f) (heard p H) ≡ cond (is_finished s (heard f H) x) (cond (eqb (home s x) p) 1 0) 0
    done_ledger x f p i =
        omega (
          arith,
          ledger (says s) (opening s) (is_done x f) f p H flight run
              (λ r ne. silent (is_done x f) r p (record { rows = λ y rs. refl; done = λ y n. and_off (id_eq y x) (eqb r f) (other_off r f ne); batch = λ e ids. refl; tick = λ e. refl }) (heard r H)),
          opening_count (is_done x f) p,
          off_end (ltb 0 (epochs s)) (cond (ltb p s.parts) 1 0),
          done_said s f p x (heard f H) (none_finished v x i),
        )

    pub batch_ledger : (l : Slot) (p : ℕ) → p < s.parts → count (sent_to p (is_batch l)) flight + count_msgs (is_batch l) (heard p H) ≡ count_msgs (is_tick l.epoch) (heard l.seq H)
    batch_ledger l p h =
        omega (
          arith,
          ledger (says s) (opening s) (is_batch l) l.seq p H flight run
              (λ r ne. silent (is_batch l) r p (record { rows = λ y rs. refl; done = λ y n. refl; batch = λ e ids. and_off (eqb e l.epoch) (eqb r l.seq) (other_off r l.seq ne); tick = λ e. refl }) (heard r H)),
          opening_count (is_batch l) p,
          off_end (ltb 0 (epochs s)) (cond (ltb p s.parts) 1 0),
          batches_said s l.seq p l (heard l.seq H) refl h,
        )

    pub tick_ledger : (e p : ℕ) → count (sent_to p (is_tick e)) flight + count_msgs (is_tick e) (heard p H) ≡ cond (ltb 0 (epochs s) && eqb 0 e) (cond (ltb p s.parts) 1 0) 0 + next_tick s e (heard p H)
    tick_ledger e p =
        omega (
          arith,
          ledger (says s) (opening s) (is_tick e) p p H flight run
              (λ r ne. silent (is_tick e) r p (record { rows = λ y rs. refl; done = λ y n. refl; batch = λ d ids. refl; tick = λ d. and_off (eqb d e) (eqb r p) (other_off r p ne) }) (heard r H)),
          opening_count (is_tick e) p,
          ticks_said s p e (heard p H),
        )

  -- the Ticks handled are those of the epochs below their number
  abbrev pub Timely : List Entry → Type 0
  Timely H = (p e : ℕ) → count_msgs (is_tick e) (heard p H) ≡ cond (ltb e (ticks (heard p H))) 1 0

  pub tick_now : (v : Valid s) (H : List Entry) (flight : List Mail) → IsRun s H flight → Timely H → (e p : ℕ) → 1 ≤ count (sent_to p (is_tick e)) flight → e ≡ ticks (heard p H)
  tick_now v H flight run t zero p h = grind (arith, nat_tests, tick_ledger v H flight run zero p, t p zero)
  tick_now v H flight run t (suc d) p h = grind (arith, nat_tests, tick_ledger v H flight run (suc d) p, t p (suc d), t p d)

  pub timely : (v : Valid s) (H : List Entry) (flight : List Mail) → IsRun s H flight → Timely H
  timely v [] flight run p e = grind (arith, nat_tests)
  timely v (e ∷ H) flight run p d =
      let ih = timely v H run.0 run.4 in
      let m = run.1 in
      let at : IsIn m run.0 = subst (λ l. IsIn m l) (sym run.3.stood) (in_right m run.3.front (m ∷ run.3.back) (inl refl)) in
      subst (λ (z : Entry). count_msgs (is_tick d) (heard p (z ∷ H)) ≡ cond (ltb d (ticks (heard p (z ∷ H)))) 1 0) (sym run.2)
      (⊎_elim
      (λ (t : (eqb m.to p ≡ true) × (m.to ≡ p)). rw t.0 (one m.msg refl t.1 ih at))
      (λ (t : (eqb m.to p ≡ false) × (m.to ≢ p)). rw t.0 (ih p d))
      (eqb_tells m.to p))
    where
      one : (k : Msg) → run.1.msg ≡ k → run.1.to ≡ p → Timely H → IsIn run.1 run.0 → count_msgs (is_tick d) (k ∷ heard p H) ≡ cond (ltb d (ticks (k ∷ heard p H))) 1 0
      one (Tick c) is to ih at =
          let there : sent_to p (is_tick c) run.1 ≡ true = rw (is, to) (rw (same_number c, same_number p) refl) in
          let now : c ≡ ticks (heard p H) = tick_now v H run.0 run.4 ih c p (count_in (sent_to p (is_tick c)) run.1 run.0 at there) in
          grind (arith, nat_tests, ih p d, now)
      one (Batch c q ids) is to ih at = omega (arith, ih p d)
      one k is to ih at = omega (arith, ih p d)
