-- In every run each mail is what it is to be: above all, its Rows are those of serial execution.
use Rattle.std.proofs.Common.{◌≡◌, ◌⊎◌, ℕ, suc, ◌<◌, List, [], ◌∷◌, ◌++◌, length, map, Bool, true, false, cond, ◌&&◌, not, eqb, ltb, refl, sym, ap, ◌∙◌, subst, inl, inr, ⊎_elim, arith}
use Rattle.std.proofs.lemmas.Bool.Decides.{nat_tests}
use Rattle.deneva_base.specs.declared.numbers.TxnId.{TxnId}
use Rattle.deneva_base.specs.Lists.{IsIn}
use Rattle.deneva_base.specs.declared.rows.Keyed.{Keyed}
use Rattle.deneva_base.proofs.Membership.{in_left, in_right, in_cases, any_found, and_parts, in_map_from, filter_in}
use Rattle.server_core.specs.declared.messages.Msg.{Msg}
use Rattle.server_core.specs.declared.messages.Msg.TheVariants.{Tick, Batch, Rows, Finished}
use Rattle.server_core.specs.declared.messages.Mail.{Mail}
use Rattle.server_core.specs.declared.messages.Entry.{Entry}
use Rattle.txn_program.specs.Transactions.{numbers_below}
use Rattle.deneva_base.specs.Partitions.{partition_of}
use Rattle.server_core.specs.Runs.{heard, entry_of}
use Rattle.server_core.proofs.counts.Conserved.{handled}
use Rattle.server_core.proofs.values.Values.{heard_mail}
use Rattle.server_core.specs.Setting.{Setting, home, participants_for}
use Rattle.server_core.specs.CalvinScheduler.{participates, has_rows, rows_from, is_ready, is_finished, rows_at}
use Rattle.server_core.specs.GlobalOrder.{epochs, batch, order, number}
use Rattle.server_core.specs.Calvin.{says, opening, became_ready, rows_mails, ready_mails, finished_mail, finished_mails, tick_mail, batch_mails}
use Rattle.server_core.specs.CalvinRuns.{IsRun}
use Rattle.server_core.specs.CalvinProper.{Valid}
use Rattle.server_core.specs.CalvinSerial.{serial_part}
use Rattle.calvin_laws.proofs.serial.SerialTurns.{Known, rows_are}
use Rattle.server_core.proofs.lists.ListTests.{not_true, not_both, is_or_not, all_at, flat_in, below_in, same_number}
use Rattle.calvin_laws.proofs.order.Nodes.{ready_more, finished_more, rows_in, ready_is, access_there, number_is}
use Rattle.calvin_laws.proofs.order.Orders.{order_in}

-- a mail from f to p after H
abbrev pub RightMsg : Setting → List Entry → ℕ → ℕ → Msg → Type 0
RightMsg s H f p (Tick e) = (f ≡ p) × (e < epochs s) × (p < s.parts)
RightMsg s H f p (Batch e q ids) = (q ≡ f) × (ids ≡ batch s (record { epoch = e; seq = q })) × (e < epochs s) × (q < s.parts) × (p < s.parts)
RightMsg s H f p (Rows x q rows) =
    (q ≡ f) × IsIn x s.ids × IsIn f (participants_for s x) × IsIn p (participants_for s x) × (rows ≡ serial_part s f x) × (is_ready s f (heard f H) x ≡ true)
RightMsg s H f p (Finished x q n) = (q ≡ f) × (p ≡ home s x) × IsIn x s.ids × IsIn f (participants_for s x) × (n ≡ number s x) × (is_finished s (heard f H) x ≡ true)
RightMsg s H f p m = ⊥

abbrev pub Right : Setting → List Entry → Mail → Type 0
Right s H m = RightMsg s H m.from m.to m.msg

pub heard_here : (n : ℕ) (m : Mail) (H : List Entry) → heard m.to (entry_of n m ∷ H) ≡ m.msg ∷ heard m.to H
heard_here n m H = ap (λ b. cond b (m.msg ∷ heard m.to H) (heard m.to H)) (same_number m.to)

module _ (s : Setting) where
  pub ready_later : (p : ℕ) (e : Entry) (H : List Entry) (x : TxnId) → is_ready s p (heard p H) x ≡ true → is_ready s p (heard p (e ∷ H)) x ≡ true
  ready_later p e H x h = go (eqb e.node p)
    where
      go : (b : Bool) → is_ready s p (cond b (e.msg ∷ heard p H) (heard p H)) x ≡ true
      go true = ready_more s p e.msg (heard p H) x h
      go false = h

  pub finished_later : (p : ℕ) (e : Entry) (H : List Entry) (x : TxnId) → is_finished s (heard p H) x ≡ true → is_finished s (heard p (e ∷ H)) x ≡ true
  finished_later p e H x h = go (eqb e.node p)
    where
      go : (b : Bool) → is_finished s (cond b (e.msg ∷ heard p H) (heard p H)) x ≡ true
      go true = finished_more s e.msg (heard p H) x h
      go false = h

  right_later : (e : Entry) (H : List Entry) (f p : ℕ) (m : Msg) → RightMsg s H f p m → RightMsg s (e ∷ H) f p m
  right_later e H f p (Tick n) r = r
  right_later e H f p (Batch n q ids) r = r
  right_later e H f p (Rows x q rows) r = (r.0, r.1, r.2, r.3, r.4, ready_later f e H x r.5)
  right_later e H f p (Finished x q n) r = (r.0, r.1, r.2, r.3, r.4, finished_later f e H x r.5)
  right_later e H f p m r = absurd r

  pub here_participant : Valid s → (x : TxnId) (p : ℕ) → participates s x p ≡ true → IsIn p (participants_for s x)
  here_participant v x p h =
      let f = any_found (λ a. eqb (partition_of a.key s.parts) p) (s.accesses x) h in
      subst (λ n. IsIn n (participants_for s x)) (number_is (partition_of f.0.key s.parts) p f.2) (access_there s v.parts x f.0 f.1)

  -- the Rows that a node has handled
  pub known : (H : List Entry) (p : ℕ) → ((y : Mail) → IsIn y (handled H) → Right s H y) → Known s p (heard p H)
  known H p right = record {
    right = λ x q rows i. let r = of x q rows i in (r.1.1, r.1.4 ∙ ap (λ n. serial_part s n x) (sym r.1.0));
    own = λ x rows i. let r = of x p rows i in subst (λ n. is_ready s n (heard n H) x ≡ true) (sym r.1.0) r.1.5;
  }
    where
      of : (x : TxnId) (q : ℕ) (rows : List Keyed) → IsIn (Rows x q rows) (heard p H) → (f : ℕ) × RightMsg s H f p (Rows x q rows)
      of x q rows i =
          let m = heard_mail p H (Rows x q rows) i in
          (m.0.from, subst (λ n. RightMsg s H m.0.from n (Rows x q rows)) m.3 (subst (λ z. RightMsg s H m.0.from m.0.to z) m.2 (right m.0 m.1)))

  module _ (v : Valid s) (H : List Entry) (m : Mail) (right : (y : Mail) → (y ≡ m) ⊎ IsIn y (handled H) → Right s H y) where
    abbrev p : ℕ
    p = m.to

    abbrev H' : List Entry
    H' = entry_of (length H) m ∷ H

    all_right : (y : Mail) → IsIn y (handled H') → Right s H' y
    all_right y i = right_later (entry_of (length H) m) H y.from y.to y.msg (right y i)

    known_here : Known s p (m.msg ∷ heard p H)
    known_here = subst (λ ms. Known s p ms) (heard_here (length H) m H) (known H' p all_right)

    -- before m came, each own Rows that is there now was ready
    own_before : (x : TxnId) → has_rows (m.msg ∷ heard p H) x p ≡ true → is_ready s p (heard p H) x ≡ true
    own_before x h =
        let rows : List Keyed = rows_from (m.msg ∷ heard p H) x p in
        let i : IsIn (Rows x p rows) (m.msg ∷ heard p H) = rows_in (m.msg ∷ heard p H) x p h in
        ⊎_elim
        (λ (is : Rows x p rows ≡ m.msg). let r : RightMsg s H m.from p (Rows x p rows) = subst (λ z. RightMsg s H m.from p z) (sym is) (right m (inl refl)) in subst (λ n. is_ready s n (heard n H) x ≡ true) (sym r.0) r.5)
        (λ j. (known H p (λ y k. right y (inr k))).own x rows j)
        i

    rows_right : (y : Mail) → IsIn y (ready_mails s p m.msg (heard p H)) → Right s H' y
    rows_right y i =
        let f = flat_in (rows_mails s p (m.msg ∷ heard p H)) y (became_ready s p m.msg (heard p H)) i in
        let x : TxnId = f.0 in
        let g = filter_in (λ z. is_ready s p (m.msg ∷ heard p H) z && not (is_ready s p (heard p H) z)) x (order s) f.1 in
        let b = and_parts (is_ready s p (m.msg ∷ heard p H) x) (not (is_ready s p (heard p H) x)) g.1 in
        let r = ready_is s p (m.msg ∷ heard p H) x b.0 in
        let part = here_participant v x p r.here in
        let fresh : is_finished s (m.msg ∷ heard p H) x ≡ false
        = ⊎_elim
        (λ d. absurd (not_both (is_ready s p (heard p H) x) (own_before x (all_at (has_rows (m.msg ∷ heard p H) x) p (participants_for s x) d part)) (not_true (is_ready s p (heard p H) x) b.1)))
        (λ n. n)
        (is_or_not (is_finished s (m.msg ∷ heard p H) x))
        in
        let q = in_map_from (λ n. record { from = p; to = n; msg = Rows x p (rows_at s p (m.msg ∷ heard p H) x) }) y (participants_for s x) f.2 in
        subst (λ z. Right s H' z) (sym q.2)
        (refl, order_in s x r.ordered, part, q.1, rows_are s v p (m.msg ∷ heard p H) known_here x r fresh, subst (λ ms. is_ready s p ms x ≡ true) (sym (heard_here (length H) m H)) b.0)

    said_right : (k : Msg) → m.msg ≡ k → (y : Mail) → IsIn y (says s p (k ∷ heard p H)) → Right s H' y
    said_right (Tick e) is y i =
        let r : RightMsg s H m.from p (Tick e) = subst (λ z. RightMsg s H m.from p z) is (right m (inl refl)) in
        ⊎_elim
        (λ a.
        let q = in_map_from (λ n. record { from = p; to = n; msg = Batch e p (batch s (record { epoch = e; seq = p })) }) y (numbers_below s.parts) a in
        subst (λ z. Right s H' z) (sym q.2) (refl, refl, r.1, r.2, below_in q.0 s.parts q.1))
        (λ b. next (ltb (suc e) (epochs s)) refl r.2 b)
        (in_cases y (batch_mails s p e) (cond (ltb (suc e) (epochs s)) (tick_mail p (suc e) ∷ []) []) i)
      where
        next : (b : Bool) → ltb (suc e) (epochs s) ≡ b → p < s.parts → IsIn y (cond b (tick_mail p (suc e) ∷ []) []) → Right s H' y
        next true l h j = ⊎_elim (λ (q : y ≡ tick_mail p (suc e)). subst (λ z. Right s H' z) (sym q) (refl, less l, h)) (λ n. absurd n) j
          where
            less : ltb (suc e) (epochs s) ≡ true → suc e < epochs s
            less l' = grind (arith, nat_tests)
        next false l h j = absurd j
    said_right (Batch e q ids) is y i = rows_right y (subst (λ z. IsIn y (ready_mails s p z (heard p H))) (sym is) i)
    said_right (Rows x q rows) is y i =
        let r : RightMsg s H m.from p (Rows x q rows) = subst (λ z. RightMsg s H m.from p z) is (right m (inl refl)) in
        ⊎_elim
        (λ a. done (is_finished s (Rows x q rows ∷ heard p H) x) refl (is_finished s (heard p H) x) r.1 r.3 a)
        (λ b. rows_right y (subst (λ z. IsIn y (ready_mails s p z (heard p H))) (sym is) b))
        (in_cases y (finished_mails s p x (Rows x q rows) (heard p H)) (ready_mails s p (Rows x q rows) (heard p H)) i)
      where
        done : (b : Bool) → is_finished s (Rows x q rows ∷ heard p H) x ≡ b → (c : Bool) → IsIn x s.ids → IsIn p (participants_for s x) → IsIn y (cond (b && not c) (finished_mail s p x ∷ []) []) → Right s H' y
        done true e false ix ip j =
            ⊎_elim
            (λ (w : y ≡ finished_mail s p x). subst (λ z. Right s H' z) (sym w) (refl, refl, ix, ip, refl, subst (λ ms. is_finished s ms x ≡ true) (ap (λ z. z ∷ heard p H) (sym is) ∙ sym (heard_here (length H) m H)) e))
            (λ n. absurd n)
            j
        done true e true ix ip j = absurd j
        done false e c ix ip j = absurd j
    said_right (Finished x q n) is y i = absurd i
    said_right k is y i = absurd i

  opening_right : (y : Mail) → IsIn y (opening s) → Right s [] y
  opening_right y i = go (ltb 0 (epochs s)) refl i
    where
      go : (b : Bool) → ltb 0 (epochs s) ≡ b → IsIn y (cond b (map (λ p. tick_mail p 0) (numbers_below s.parts)) []) → Right s [] y
      go true e j =
          let q = in_map_from (λ p. tick_mail p 0) y (numbers_below s.parts) j in
          subst (λ z. Right s [] z) (sym q.2) (refl, less e, below_in q.0 s.parts q.1)
        where
          less : ltb 0 (epochs s) ≡ true → 0 < epochs s
          less l = grind (arith, nat_tests)
      go false e j = absurd j

  pub rights : Valid s → (H : List Entry) (flight : List Mail) → IsRun s H flight → (y : Mail) → IsIn y flight ⊎ IsIn y (handled H) → Right s H y
  rights v [] flight run y i = ⊎_elim (λ f. opening_right y (subst (λ l. IsIn y l) run f)) (λ n. absurd n) i
  rights v (e ∷ H) flight run y i =
      let before = run.0 in
      let m = run.1 in
      let st = run.3 in
      let ih = rights v H before run.4 in
      let at : IsIn m before = subst (λ l. IsIn m l) (sym st.stood) (in_right m st.front (m ∷ st.back) (inl refl)) in
      let old : (z : Mail) → (z ≡ m) ⊎ IsIn z (handled H) → Right s H z = λ z j. ⊎_elim (λ is. subst (λ w. Right s H w) (sym is) (ih m (inl at))) (λ h. ih z (inr h)) j in
      subst (λ w. Right s (w ∷ H) y) (sym run.2)
      (⊎_elim
      (λ f. ⊎_elim
      (λ l. right_later (entry_of (length H) m) H y.from y.to y.msg (ih y (inl (subst (λ z. IsIn y z) (sym st.stood) (⊎_elim (λ a. in_left y st.front (m ∷ st.back) a) (λ b. in_right y st.front (m ∷ st.back) (inr b)) (in_cases y st.front st.back l))))))
      (λ n. said_right v H m old m.msg refl y n)
      (in_cases y (st.front ++ st.back) (says s m.to (m.msg ∷ heard m.to H)) (subst (λ l. IsIn y l) st.left f)))
      (λ h. ⊎_elim
      (λ is. right_later (entry_of (length H) m) H y.from y.to y.msg (old y (inl (is ∙ ap (λ (w : Entry). record { from = w.from; to = w.node; msg = w.msg }) run.2))))
      (λ r. right_later (entry_of (length H) m) H y.from y.to y.msg (old y (inr r)))
      h)
      i)
