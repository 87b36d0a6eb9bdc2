-- In every run each mail in flight fits its node.
use Rattle.std.proofs.Common.{◌≡◌, ◌≢◌, ℕ, suc, ◌≤◌, List, [], ◌∷◌, ◌++◌, map, Bool, true, false, cond, ◌&&◌, not, eqb, ltb, refl, sym, ap, ◌∙◌, subst, inl, ⊎_elim, arith}
use Rattle.std.specs.List.{flat_map}
use Rattle.std.proofs.lemmas.Bool.Decides.{nat_tests, eqb_tells}
use Rattle.deneva_base.specs.declared.numbers.TxnId.{TxnId}
use Rattle.deneva_base.specs.Lists.{IsIn}
use Rattle.deneva_base.specs.declared.rows.Keyed.{Keyed}
use Rattle.deneva_base.proofs.Membership.{in_cases, in_right, in_map_from, and_true}
use Rattle.server_core.specs.declared.messages.Msg.{Msg}
use Rattle.server_core.specs.declared.messages.Msg.TheVariants.{Tick, Batch, Rows, Finished}
use Rattle.server_core.specs.declared.messages.Mail.{Mail}
use Rattle.server_core.specs.declared.messages.Entry.{Entry}
use Rattle.txn_program.specs.Transactions.{numbers_below}
use Rattle.server_core.specs.Runs.{heard}
use Rattle.server_core.specs.Counts.{all_said, count}
use Rattle.server_core.proofs.counts.Conserved.{count_in, count-append}
use Rattle.server_core.proofs.counts.Local.{sent_to, count_msgs}
use Rattle.server_core.proofs.values.Origins.{origin}
use Rattle.server_core.proofs.counts.Prepares.{occurs}
use Rattle.server_core.specs.Setting.{Setting, home, participants_for}
use Rattle.server_core.specs.GlobalOrder.{Slot, epochs, batch}
use Rattle.server_core.specs.CalvinScheduler.{ticks, is_finished, is_ready, rows_at}
use Rattle.server_core.specs.Calvin.{says, opening, became_ready, rows_mails, ready_mails, finished_mail, finished_mails, tick_mail, batch_mails}
use Rattle.server_core.specs.CalvinRuns.{IsRun}
use Rattle.server_core.specs.CalvinProper.{Valid, Forms}
use Rattle.server_core.specs.CalvinFits.{Suits, AllFit, RowsFor}
use Rattle.calvin_laws.proofs.counts.RightMails.{RightMsg, rights}
use Rattle.server_core.proofs.lists.ListTests.{flat_in, same_number, id_self}
use Rattle.calvin_laws.proofs.counts.Counts.{is_tick, is_batch, is_rows, is_done, batch_none, rows_none, done_none, occurs_once, next_tick}
use Rattle.calvin_laws.proofs.counts.Ledgers.{rows_ledger, done_ledger, batch_ledger, tick_ledger, tick_now, timely}
use Rattle.calvin_laws.proofs.counts.FineRows.{part_formed}

module _ (s : Setting) where
  -- a node's mails are from it
  ready_from : (p : ℕ) (y : Mail) (ms : List Msg) (xs : List TxnId) → IsIn y (flat_map (rows_mails s p ms) xs) → y.from ≡ p
  ready_from p y ms xs i =
      let f = flat_in (rows_mails s p ms) y xs i in
      let q = in_map_from (λ n. record { from = p; to = n; msg = Rows f.0 p (rows_at s p ms f.0) }) y (participants_for s f.0) f.2 in
      ap (λ (z : Mail). z.from) q.2

  one_from : (p : ℕ) (y z : Mail) (b : Bool) → z.from ≡ p → IsIn y (cond b (z ∷ []) []) → y.from ≡ p
  one_from p y z true e i = ⊎_elim (λ (is : y ≡ z). ap (λ (w : Mail). w.from) is ∙ e) (λ n. absurd n) i
  one_from p y z false e i = absurd i

  says_from : (p : ℕ) (m : Msg) (ms : List Msg) (y : Mail) → IsIn y (says s p (m ∷ ms)) → y.from ≡ p
  says_from p (Tick e) ms y i =
      ⊎_elim
      (λ a. let q = in_map_from (λ n. record { from = p; to = n; msg = Batch e p (batch s (record { epoch = e; seq = p })) }) y (numbers_below s.parts) a in ap (λ (z : Mail). z.from) q.2)
      (λ b. one_from p y (tick_mail p (suc e)) (ltb (suc e) (epochs s)) refl b)
      (in_cases y (batch_mails s p e) (cond (ltb (suc e) (epochs s)) (tick_mail p (suc e) ∷ []) []) i)
  says_from p (Batch e q ids) ms y i = ready_from p y (Batch e q ids ∷ ms) (became_ready s p (Batch e q ids) ms) i
  says_from p (Rows x q rows) ms y i =
      ⊎_elim
      (λ a. one_from p y (finished_mail s p x) (is_finished s (Rows x q rows ∷ ms) x && not (is_finished s ms x)) refl a)
      (λ b. ready_from p y (Rows x q rows ∷ ms) (became_ready s p (Rows x q rows) ms) b)
      (in_cases y (finished_mails s p x (Rows x q rows) ms) (ready_mails s p (Rows x q rows) ms) i)
  says_from p (Finished x q n) ms y i = absurd i
  says_from p m ms y i = absurd i

  said_from : (p : ℕ) (ms : List Msg) (y : Mail) → IsIn y (all_said (says s) p ms) → y.from ≡ p
  said_from p [] y i = absurd i
  said_from p (m ∷ ms) y i = ⊎_elim (λ a. says_from p m ms y a) (λ b. said_from p ms y b) (in_cases y (says s p (m ∷ ms)) (all_said (says s) p ms) i)

  not_opening : (y : Mail) (x : TxnId) (q : ℕ) (rows : List Keyed) → y.msg ≡ Rows x q rows → IsIn y (opening s) → ⊥
  not_opening y x q rows e i = go (ltb 0 (epochs s)) i
    where
      go : (b : Bool) → IsIn y (cond b (map (λ p. tick_mail p 0) (numbers_below s.parts)) []) → ⊥
      go true j = let n = in_map_from (λ p. tick_mail p 0) y (numbers_below s.parts) j in let f : Tick 0 ≡ Rows x q rows = sym (ap (λ (z : Mail). z.msg) n.2) ∙ e in cc (f)
      go false j = j

  pub each_suits : Valid s → Forms s → (H : List Entry) (flight : List Mail) → IsRun s H flight → (y : Mail) → IsIn y flight → Suits s y.to y.from y.msg (heard y.to H)
  each_suits v f H flight run y i = go y.msg refl (rights s v H flight run y (inl i))
    where
      -- one is in flight
      flies : (t : Msg → Bool) → t y.msg ≡ true → 1 ≤ count (sent_to y.to t) flight
      flies t e = count_in (sent_to y.to t) y flight i (rw (e, same_number y.to) refl)

      at_most : (b : Bool) (n : ℕ) → n ≤ 1 → cond b n 0 ≤ 1
      at_most true n h = h
      at_most false n h = omega arith

      own : (x : TxnId) (q : ℕ) (rows : List Keyed) → y.msg ≡ Rows x q rows → y.from ≡ y.to → IsIn (record { from = y.to; to = y.to; msg = Rows x q rows }) (all_said (says s) y.to (heard y.to H))
      own x q rows is same =
          let as_y : y ≡ record { from = y.to; to = y.to; msg = Rows x q rows } = λ j. record { from = same j; to = y.to; msg = is j } in
          ⊎_elim
          (λ o. absurd (not_opening y x q rows is o))
          (λ o. subst (λ z. IsIn z (all_said (says s) y.to (heard y.to H))) as_y (subst (λ n. IsIn y (all_said (says s) n (heard n H))) (sym (said_from o.0 (heard o.0 H) y o.1) ∙ same) o.1))
          (origin (says s) (opening s) H flight run y (inl i))

      go : (m : Msg) → y.msg ≡ m → RightMsg s H y.from y.to y.msg → Suits s y.to y.from m (heard y.to H)
      go (Tick e) is r' =
          let r : RightMsg s H y.from y.to (Tick e) = subst (λ z. RightMsg s H y.from y.to z) is r' in
          (r.0, tick_now s v H flight run (timely s v H flight run) e y.to (flies (is_tick e) (rw is (same_number e))), r.1)
      go (Batch e q ids) is r' =
          let r : RightMsg s H y.from y.to (Batch e q ids) = subst (λ z. RightMsg s H y.from y.to z) is r' in
          let l : Slot = record { epoch = e; seq = q } in
          let fly : 1 ≤ count (sent_to y.to (is_batch l)) flight = flies (is_batch l) (rw is (rw (same_number e, same_number q) refl)) in
          let few : count_msgs (is_tick e) (heard q H) ≤ 1 = subst (λ n. n ≤ 1) (sym (timely s v H flight run q e)) (at_most (ltb e (ticks (heard q H))) 1 (omega arith)) in
          (r.0, batch_none (heard y.to H) l (omega (arith, fly, few, batch_ledger s v H flight run l y.to r.4)), r.1, r.2, r.3)
      go (Rows x q rows) is r' =
          let r : RightMsg s H y.from y.to (Rows x q rows) = subst (λ z. RightMsg s H y.from y.to z) is r' in
          let fly : 1 ≤ count (sent_to y.to (is_rows x q)) flight = flies (is_rows x q) (rw is (rw (id_self x, same_number q) refl)) in (
            r.0,
            r.1,
            r.2,
            r.3,
            rows_none (heard y.to H) x q (omega (arith, fly, rows_ledger s v H flight run x q y.to, at_most (is_ready s q (heard q H) x) (occurs y.to (participants_for s x)) (occurs_once s x y.to))),
            subst (λ l. RowsFor s x y.from l) (sym r.4) (part_formed s v f x y.from r.1),
            λ same. own x q rows is same,
          )
      go (Finished x q n) is r' =
          let r : RightMsg s H y.from y.to (Finished x q n) = subst (λ z. RightMsg s H y.from y.to z) is r' in
          let fly : 1 ≤ count (sent_to y.to (is_done x q)) flight = flies (is_done x q) (rw is (rw (id_self x, same_number q) refl)) in
          (r.1, r.2, r.0, r.3, done_none (heard y.to H) x q (omega (arith, fly, done_ledger s v H flight run x q y.to r.2, at_most (is_finished s (heard q H) x) (cond (eqb (home s x) y.to) 1 0) (at_most (eqb (home s x) y.to) 1 (omega arith)))), r.4)
      go m is r' = subst (λ z. RightMsg s H y.from y.to z) is r'

  -- a test that it passes, and that one mail in flight to its node passes
  pub once_in_flight : Valid s → (H : List Entry) (flight : List Mail) → IsRun s H flight → (y : Mail) → IsIn y flight → (t : Msg → Bool) × (t y.msg ≡ true) × (count (sent_to y.to t) flight ≤ 1)
  once_in_flight v H flight run y i = go y.msg refl (rights s v H flight run y (inl i))
    where
      at_most : (b : Bool) (n : ℕ) → n ≤ 1 → cond b n 0 ≤ 1
      at_most true n h = h
      at_most false n h = omega arith

      few : (q e : ℕ) → count_msgs (is_tick e) (heard q H) ≤ 1
      few q e = subst (λ n. n ≤ 1) (sym (timely s v H flight run q e)) (at_most (ltb e (ticks (heard q H))) 1 (omega arith))

      first : (a b c : Bool) → cond (a && b) (cond c 1 0) 0 ≤ 1
      first true true true = omega arith
      first true true false = omega arith
      first true false c = omega arith
      first false b c = omega arith

      tick : (e p : ℕ) → count (sent_to p (is_tick e)) flight ≤ 1
      tick ℕ.zero p = omega (arith, tick_ledger s v H flight run 0 p, first (ltb 0 (epochs s)) true (ltb p s.parts))
      tick (ℕ.suc d) p =
          let b : next_tick s (suc d) (heard p H) ≤ 1 = at_most (ltb (suc d) (epochs s)) (count_msgs (is_tick d) (heard p H)) (few p d) in
          grind (arith, nat_tests, tick_ledger s v H flight run (suc d) p, b)

      go : (m : Msg) → y.msg ≡ m → RightMsg s H y.from y.to y.msg → (t : Msg → Bool) × (t y.msg ≡ true) × (count (sent_to y.to t) flight ≤ 1)
      go (Tick e) is r' = (is_tick e, rw is (same_number e), tick e y.to)
      go (Batch e q ids) is r' =
          let r : RightMsg s H y.from y.to (Batch e q ids) = subst (λ z. RightMsg s H y.from y.to z) is r' in
          let l : Slot = record { epoch = e; seq = q } in
          (is_batch l, rw is (rw (same_number e, same_number q) refl), omega (arith, few q e, batch_ledger s v H flight run l y.to r.4))
      go (Rows x q rows) is r' =
          (is_rows x q, rw is (rw (id_self x, same_number q) refl), omega (arith, rows_ledger s v H flight run x q y.to, at_most (is_ready s q (heard q H) x) (occurs y.to (participants_for s x)) (occurs_once s x y.to)))
      go (Finished x q n) is r' =
          let r : RightMsg s H y.from y.to (Finished x q n) = subst (λ z. RightMsg s H y.from y.to z) is r' in
          (is_done x q, rw is (rw (id_self x, same_number q) refl), omega (arith, done_ledger s v H flight run x q y.to r.2, at_most (is_finished s (heard q H) x) (cond (eqb (home s x) y.to) 1 0) (at_most (eqb (home s x) y.to) 1 (omega arith))))
      go m is r' = absurd (subst (λ z. RightMsg s H y.from y.to z) is r')

  -- so no two equal mails are in flight
  pub no_twin : Valid s → (H : List Entry) (flight : List Mail) → IsRun s H flight → (front back : List Mail) (m : Mail) → flight ≡ front ++ m ∷ back → IsIn m front → ⊥
  no_twin v H flight run front back m e i =
      let t = once_in_flight v H flight run m (subst (λ l. IsIn m l) (sym e) (in_right m front (m ∷ back) (inl refl))) in
      let pass : sent_to m.to t.0 m ≡ true = and_true (t.0 m.msg) (eqb m.to m.to) t.1 (same_number m.to) in
      omega (
        arith,
        t.2,
        ap (count (sent_to m.to t.0)) e,
        count-append (sent_to m.to t.0) front (m ∷ back),
        count_in (sent_to m.to t.0) m front i pass,
        ap {B = ℕ} (λ b. cond b 1 0) pass,
      )

  -- and each message that a node has handled fitted
  pub nodes_fit : Valid s → Forms s → (H : List Entry) (flight : List Mail) → IsRun s H flight → (p : ℕ) → AllFit s p (heard p H)
  nodes_fit v f [] flight run p = tt
  nodes_fit v f (e ∷ H) flight run p =
      let m = run.1 in
      let at : IsIn m run.0 = subst (λ l. IsIn m l) (sym run.3.stood) (in_right m run.3.front (m ∷ run.3.back) (inl refl)) in
      let old = nodes_fit v f H run.0 run.4 p in
      let fits = each_suits v f H run.0 run.4 m at in
      subst (λ (z : Entry). AllFit s p (heard p (z ∷ H))) (sym run.2)
      (⊎_elim
      (λ (t : (eqb m.to p ≡ true) × (m.to ≡ p)). rw t.0 ((m.from, subst (λ n. Suits s n m.from m.msg (heard n H)) t.1 fits), old))
      (λ (t : (eqb m.to p ≡ false) × (m.to ≢ p)). rw t.0 old)
      (eqb_tells m.to p))
