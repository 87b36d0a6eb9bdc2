-- What one message may change at a node, by its own list alone.
use Rattle.std.proofs.Common.{◌≡◌, ℕ, suc, List, [], ◌∷◌, Bool, true, false, cond, ◌&&◌, ◌||◌, not, eqb, ltb, refl, sym, ap, ◌∙◌, subst, inl, inr, ⊎_elim, true≢false}
use Rattle.std.specs.List.{list_all}
use Rattle.deneva_base.specs.declared.numbers.TxnId.{TxnId}
use Rattle.deneva_base.specs.Lists.{IsIn}
use Rattle.deneva_base.specs.declared.rows.Keyed.{Keyed}
use Rattle.deneva_base.proofs.Membership.{in_cases, and_parts, and_true, in_map_from, filter_in}
use Rattle.server_core.specs.declared.messages.Msg.{Msg}
use Rattle.server_core.specs.declared.messages.Msg.TheVariants.{Tick, Batch, Rows, Finished}
use Rattle.server_core.specs.declared.messages.Mail.{Mail}
use Rattle.txn_program.specs.Transactions.{numbers_below}
use Rattle.server_core.specs.Counts.{all_said}
use Rattle.server_core.specs.Setting.{Setting, participants_for}
use Rattle.server_core.specs.CalvinScheduler.{participates, clash, has_rows, is_finished, unblocked, is_ready, taken, rows_at}
use Rattle.server_core.specs.GlobalOrder.{epochs, batch, order, before, has_id}
use Rattle.deneva_base.specs.Keys.{id_eq}
use Rattle.server_core.specs.Calvin.{says, became_ready, rows_mails, ready_mails, finished_mail, finished_mails, tick_mail, batch_mails}
use Rattle.server_core.specs.CalvinFits.{Suits, AllFit}
use Rattle.calvin_laws.proofs.serial.SerialTurns.{Owned}
use Rattle.server_core.proofs.lists.ListTests.{or_cases, or_left, or_right, not_both, not_true, is_or_not, all_at, flat_in, id_tells}
use Rattle.calvin_laws.proofs.order.Nodes.{ready_more}

all_fails : {A : Type 0} (f : A → Bool) (xs : List A) → list_all f xs ≡ false → (x : A) × IsIn x xs × (f x ≡ false)
all_fails f [] e = absurd (true≢false e)
all_fails {A} f (x ∷ xs) e = go (f x) refl e (all_fails f xs)
  where
    go : (b : Bool) → f x ≡ b → (b && list_all f xs) ≡ false → (list_all f xs ≡ false → (x : A) × IsIn x xs × (f x ≡ false)) → (y : A) × IsIn y (x ∷ xs) × (f y ≡ false)
    go true g h next = let n = next h in (n.0, inr n.1, n.2)
    go false g h next = (x, inl refl, g)

module _ (s : Setting) (p : ℕ) where
  -- Rows that p said are of a transaction that is ready

  from_ready : (m : Msg) (ms : List Msg) (y : Mail) (x : TxnId) (q : ℕ) (rows : List Keyed) → y.msg ≡ Rows x q rows → IsIn y (ready_mails s p m ms) → is_ready s p (m ∷ ms) x ≡ true
  from_ready m ms y x q rows e i =
      let f = flat_in (rows_mails s p (m ∷ ms)) y (became_ready s p m ms) i in
      let g = filter_in (λ z. is_ready s p (m ∷ ms) z && not (is_ready s p ms z)) f.0 (order s) f.1 in
      let n = in_map_from (λ k. record { from = p; to = k; msg = Rows f.0 p (rows_at s p (m ∷ ms) f.0) }) y (participants_for s f.0) f.2 in
      let same : Rows x q rows ≡ Rows f.0 p (rows_at s p (m ∷ ms) f.0) = sym e ∙ ap (λ (z : Mail). z.msg) n.2 in
      let is : x ≡ f.0 = cc in
      subst (λ z. is_ready s p (m ∷ ms) z ≡ true) (sym is) (and_parts (is_ready s p (m ∷ ms) f.0) (not (is_ready s p ms f.0)) g.1).0

  not_one : (b : Bool) (y z : Mail) (x : TxnId) (q : ℕ) (rows : List Keyed) → y.msg ≡ Rows x q rows → (z.msg ≡ Rows x q rows → ⊥) → IsIn y (cond b (z ∷ []) []) → ⊥
  not_one true y z x q rows e h i = ⊎_elim (λ (is : y ≡ z). h (ap (λ (w : Mail). w.msg) (sym is) ∙ e)) (λ n. n) i
  not_one false y z x q rows e h i = i

  said_ready : (ms : List Msg) (y : Mail) (x : TxnId) (q : ℕ) (rows : List Keyed) → y.msg ≡ Rows x q rows → IsIn y (all_said (says s) p ms) → is_ready s p ms x ≡ true
  said_ready [] y x q rows e i = absurd i
  said_ready (m ∷ ms) y x q rows e i =
      ⊎_elim
      (λ a. one m a)
      (λ b. ready_more s p m ms x (said_ready ms y x q rows e b))
      (in_cases y (says s p (m ∷ ms)) (all_said (says s) p ms) i)
    where
      one : (m : Msg) → IsIn y (says s p (m ∷ ms)) → is_ready s p (m ∷ ms) x ≡ true
      one (Tick d) j =
          absurd
          (⊎_elim
          (λ a. let n = in_map_from (λ k. record { from = p; to = k; msg = Batch d p (batch s (record { epoch = d; seq = p })) }) y (numbers_below s.parts) a in let f : Rows x q rows ≡ Batch d p (batch s (record { epoch = d; seq = p })) = sym e ∙ ap (λ (z : Mail). z.msg) n.2 in cc (f))
          (λ b. not_one (ltb (suc d) (epochs s)) y (tick_mail p (suc d)) x q rows e (λ f. cc (f)) b)
          (in_cases y (batch_mails s p d) (cond (ltb (suc d) (epochs s)) (tick_mail p (suc d) ∷ []) []) j))
      one (Batch d r ids) j = from_ready (Batch d r ids) ms y x q rows e j
      one (Rows z r rs) j =
          ⊎_elim
          (λ a. absurd (not_one (is_finished s (Rows z r rs ∷ ms) z && not (is_finished s ms z)) y (finished_mail s p z) x q rows e (λ f. cc (f)) a))
          (λ b. from_ready (Rows z r rs) ms y x q rows e b)
          (in_cases y (finished_mails s p z (Rows z r rs) ms) (ready_mails s p (Rows z r rs) ms) j)
      one (Finished z r n) j = absurd j
      one m j = absurd j

  pub own_fit : (ms : List Msg) (x : TxnId) (rows : List Keyed) → (f : ℕ) × Suits s p f (Rows x p rows) ms → is_ready s p ms x ≡ true
  own_fit ms x rows g = said_ready ms (record { from = p; to = p; msg = Rows x p rows }) x p rows refl (g.1.6 (sym g.1.0))

  pub owned : (ms : List Msg) → AllFit s p ms → Owned s p ms
  owned [] fit x rows i = absurd i
  owned (m ∷ ms) fit x rows i =
      ⊎_elim
      (λ is. ready_more s p m ms x (here (subst (λ z. (f : ℕ) × Suits s p f z ms) (sym is) fit.0)))
      (λ r. ready_more s p m ms x (owned ms fit.1 x rows r))
      i
    where
      here : (f : ℕ) × Suits s p f (Rows x p rows) ms → is_ready s p ms x ≡ true
      here g = said_ready ms (record { from = p; to = p; msg = Rows x p rows }) x p rows refl (g.1.6 (sym g.1.0))

  -- what a message makes ready

  pub batch_news : (e q : ℕ) (ids : List TxnId) (ms : List Msg) (z : TxnId) → is_ready s p (Batch e q ids ∷ ms) z ≡ true → is_ready s p ms z ≡ false → has_id z (taken s ms) ≡ false
  batch_news e q ids ms z h n =
      ⊎_elim
      (λ t. absurd (not_both (is_ready s p ms z) (and_true (has_id z (taken s ms)) (participates s z p && unblocked s p ms z) t (and_parts (has_id z (taken s (Batch e q ids ∷ ms))) (participates s z p && unblocked s p ms z) h).1) n))
      (λ f. f)
      (is_or_not (has_id z (taken s ms)))

  other_done : (x : TxnId) (q : ℕ) (rows : List Keyed) (ms : List Msg) (y : TxnId) → id_eq x y ≡ false → is_finished s (Rows x q rows ∷ ms) y ≡ is_finished s ms y
  other_done x q rows ms y e = ap (λ b. list_all (λ r. (b && eqb q r) || has_rows ms y r) (participants_for s y)) e

  -- only those that x blocked
  pub rows_news : (x : TxnId) (q : ℕ) (rows : List Keyed) (ms : List Msg) (z : TxnId) → is_ready s p (Rows x q rows ∷ ms) z ≡ true → is_ready s p ms z ≡ false → (is_finished s (Rows x q rows ∷ ms) x ≡ true) × (is_finished s ms x ≡ false) × IsIn x (before z (order s)) × (clash s p z x ≡ true)
  rows_news x q rows ms z h n =
      let a = and_parts (has_id z (taken s ms)) (participates s z p && unblocked s p (Rows x q rows ∷ ms) z) h in
      let b = and_parts (participates s z p) (unblocked s p (Rows x q rows ∷ ms) z) a.1 in
      let blocked : unblocked s p ms z ≡ false
      = ⊎_elim
      (λ t. absurd (not_both (is_ready s p ms z) (and_true (has_id z (taken s ms)) (participates s z p && unblocked s p ms z) a.0 (and_true (participates s z p) (unblocked s p ms z) b.0 t)) n))
      (λ f. f)
      (is_or_not (unblocked s p ms z))
      in
      let y = all_fails (λ w. is_finished s ms w || not (clash s p z w)) (before z (order s)) blocked in
      let un : is_finished s ms y.0 ≡ false = ⊎_elim (λ t. absurd (not_both (is_finished s ms y.0 || not (clash s p z y.0)) (or_left (is_finished s ms y.0) (not (clash s p z y.0)) t) y.2)) (λ f. f) (is_or_not (is_finished s ms y.0)) in
      let c : clash s p z y.0 ≡ true = ⊎_elim (λ t. t) (λ f. absurd (not_both (is_finished s ms y.0 || not (clash s p z y.0)) (or_right (is_finished s ms y.0) (not (clash s p z y.0)) (ap not f)) y.2)) (is_or_not (clash s p z y.0)) in
      let d : is_finished s (Rows x q rows ∷ ms) y.0 ≡ true
      = ⊎_elim
      (λ t. t)
      (λ f. absurd (not_both (clash s p z y.0) c (not_true (clash s p z y.0) f)))
      (or_cases (is_finished s (Rows x q rows ∷ ms) y.0) (not (clash s p z y.0)) (all_at (λ w. is_finished s (Rows x q rows ∷ ms) w || not (clash s p z w)) y.0 (before z (order s)) b.1 y.1))
      in
      let is : x ≡ y.0 = ⊎_elim (λ t. t.1) (λ t. absurd (not_both (is_finished s ms y.0) (sym (other_done x q rows ms y.0 t.0) ∙ d) un)) (id_tells x y.0) in (
        subst (λ w. is_finished s (Rows x q rows ∷ ms) w ≡ true) (sym is) d,
        subst (λ w. is_finished s ms w ≡ false) (sym is) un,
        subst (λ w. IsIn w (before z (order s))) (sym is) y.1,
        subst (λ w. clash s p z w ≡ true) (sym is) c,
      )
