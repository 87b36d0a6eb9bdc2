-- The transactions that become ready when one finishes are those that its queues let go.
use Rattle.std.proofs.Common.{◌≡◌, ◌⊎◌, ℕ, List, [], ◌∷◌, map, filter, Bool, true, false, cond, ◌&&◌, ◌||◌, not, eqb, Some, refl, sym, ap, ◌∙◌, subst, inl, inr, ⊎_elim}
use Rattle.std.specs.List.{list_any}
use Rattle.deneva_base.specs.declared.keys.Access.{Access}
use Rattle.deneva_base.specs.declared.keys.Key.{Key}
use Rattle.deneva_base.specs.declared.numbers.Number.{Number}
use Rattle.deneva_base.specs.declared.numbers.TxnId.{TxnId}
use Rattle.deneva_base.specs.declared.rows.Keyed.{Keyed}
use Rattle.deneva_base.specs.Keys.{id_eq, key_eq}
use Rattle.deneva_base.specs.Lists.{IsIn}
use Rattle.deneva_base.specs.Modes.{writes}
use Rattle.deneva_base.specs.Partitions.{partition_of}
use Rattle.deneva_base.proofs.Membership.{key_tells, in_filter, filter_in, in_map, in_map_from, any_found, and_parts, and_true}
use Rattle.server_core.specs.ActiveList.{active, is_first, became, without}
use Rattle.server_core.specs.Calvin.{became_ready}
use Rattle.server_core.specs.CalvinFits.{Suits, AllFit}
use Rattle.server_core.specs.CalvinProper.{Valid}
use Rattle.server_core.specs.GlobalOrder.{order, before, number}
use Rattle.server_core.specs.CalvinScheduler.{participates, collide, clash, has_rows, rows_from, taken, is_finished, is_ready}
use Rattle.server_core.specs.Setting.{Setting, participants_for}
use Rattle.server_core.specs.declared.messages.Msg.{Msg}
use Rattle.server_core.specs.declared.messages.Msg.TheVariants.{Rows}
use Rattle.calvin_laws.proofs.node.ActiveLists.{ready_among, became_active, active_finish}
use Rattle.server_core.proofs.lists.ListTests.{all_at, flat_in, in_flat, id_tells, is_or_not, not_both, not_true, or_cases}
use Rattle.calvin_laws.proofs.order.Nodes.{Ready, ready_is, rows_in, finished_more, number_is}
use Rattle.calvin_laws.proofs.node.Steps.{owned, own_fit, rows_news}
use Rattle.calvin_laws.proofs.order.OrderNumbers.{rising}
use Rattle.calvin_laws.proofs.serial.SerialTurns.{clash_there}
use Rattle.server_core.specs.Roles.{accesses_at}
use Rattle.calvin_sched.specs.Asked.{asked, all_free, Frees}
use Rattle.calvin_sched.specs.Freed.{freed_on, freed_by, put_numbers, RisingNumbers}
use Rattle.calvin_sched.specs.Queues.{for_key, heads}
use Rattle.calvin_sched.specs.declared.requests.Request.{Request}
use Rattle.calvin_sched.proofs.Asked.{freed_from, freed_are}
use Rattle.calvin_sched.proofs.Coming.{unfinished}
use Rattle.calvin_sched.proofs.Numbers.{put_cases, in_put_new, rising_numbers, rising_same, rising_ids}
use Rattle.calvin_sched.proofs.Versions.{rising_filter}

-- of two in a list one stands before the other
one_before : (x z : TxnId) (xs : List TxnId) → IsIn x xs → IsIn z xs → id_eq x z ≡ false → id_eq z x ≡ false → IsIn x (before z xs) ⊎ IsIn z (before x xs)
one_before x z [] i j n m = absurd i
one_before x z (y ∷ xs) i j n m = go (id_eq y x) refl (id_eq y z) refl (λ k l. one_before x z xs k l n m)
  where
    go : (b : Bool) → id_eq y x ≡ b → (c : Bool) → id_eq y z ≡ c → (IsIn x xs → IsIn z xs → IsIn x (before z xs) ⊎ IsIn z (before x xs)) → IsIn x (cond c [] (y ∷ before z xs)) ⊎ IsIn z (cond b [] (y ∷ before x xs))
    go true e true f next =
        let is : y ≡ x = ⊎_elim (λ t. t.1) (λ t. absurd (not_both (id_eq y x) e t.0)) (id_tells y x) in
        absurd (not_both (id_eq x z) (subst (λ w. id_eq w z ≡ true) is f) n)
    go true e false f next = let is : y ≡ x = ⊎_elim (λ t. t.1) (λ t. absurd (not_both (id_eq y x) e t.0)) (id_tells y x) in inl (inl (sym is))
    go false e true f next = let is : y ≡ z = ⊎_elim (λ t. t.1) (λ t. absurd (not_both (id_eq y z) f t.0)) (id_tells y z) in inr (inl (sym is))
    go false e false f next =
        let later_x : IsIn x xs = ⊎_elim (λ (is : x ≡ y). ⊎_elim (λ t. absurd (not_both (id_eq y x) t.0 e)) (λ t. absurd (t.1 (sym is))) (id_tells y x)) (λ k. k) i in
        let later_z : IsIn z xs = ⊎_elim (λ (is : z ≡ y). ⊎_elim (λ t. absurd (not_both (id_eq y z) t.0 f)) (λ t. absurd (t.1 (sym is))) (id_tells y z)) (λ k. k) j in
        ⊎_elim (λ k. inl (inr k)) (λ k. inr (inr k)) (next later_x later_z)

either_turned : (a b : Bool) → (a || b) ≡ true → (b || a) ≡ true
either_turned true true e = refl
either_turned true false e = refl
either_turned false b e = ⊎_elim (λ t. absurd (not_both false t refl)) (λ t. subst (λ c. (c || false) ≡ true) (sym t) refl) (or_cases false b e)

module _ (s : Setting) (v : Valid s) (p : ℕ) where
  clash_turned : (x y : TxnId) → clash s p x y ≡ true → clash s p y x ≡ true
  clash_turned x y c =
      let a = any_found (λ d. list_any (collide s.parts p d) (s.accesses y)) (s.accesses x) c in
      let b = any_found (collide s.parts p a.0) (s.accesses y) a.2 in
      let k = and_parts (key_eq a.0.key b.0.key) (eqb (partition_of a.0.key s.parts) p && (writes a.0.mode || writes b.0.mode)) b.2 in
      let q = and_parts (eqb (partition_of a.0.key s.parts) p) (writes a.0.mode || writes b.0.mode) k.1 in
      let same : a.0.key ≡ b.0.key = ⊎_elim (λ t. t.1) (λ t. absurd (not_both (key_eq a.0.key b.0.key) k.0 t.0)) (key_tells a.0.key b.0.key) in
      clash_there s v p y x b.0 a.0 b.1 a.1 (sym same) (number_is (partition_of b.0.key s.parts) p (subst (λ l. eqb (partition_of l s.parts) p ≡ true) same q.0)) (either_turned (writes a.0.mode) (writes b.0.mode) q.1)

  module _ (ms : List Msg) (fit : AllFit s p ms) (x : TxnId) (q : ℕ) (rows : List Keyed) (suits : Suits s p q (Rows x q rows) ms) (done : is_finished s (Rows x q rows ∷ ms) x ≡ true) where
    abbrev ms' : List Msg
    ms' = Rows x q rows ∷ ms

    all_fit : AllFit s p ms'
    all_fit = ((q, suits), fit)

    left : active s p ms' ≡ without x (active s p ms)
    left = active_finish s v p x q rows ms done

    -- the one that finishes was ready here
    was_ready : is_ready s p ms x ≡ true
    was_ready = go (rows_in ms' x p (all_at (has_rows ms' x) p (participants_for s x) done suits.3))
      where
        go : IsIn (Rows x p (rows_from ms' x p)) ms' → is_ready s p ms x ≡ true
        go i =
            ⊎_elim
            (λ (is : Rows x p (rows_from ms' x p) ≡ Rows x q rows). own_fit s p ms x (rows_from ms' x p) (subst (λ z. (f : ℕ) × Suits s p f z ms) (sym is) (q, suits)))
            (λ r. owned s p ms fit x (rows_from ms' x p) r)
            i

    module _ (queue : Key → List Request) (has : (key : Key) → queue key ≡ for_key key (asked s p (active s p ms))) (z : TxnId) where
      -- one that became ready is let go
      pub became_frees : IsIn z (became_ready s p (Rows x q rows) ms) → Frees s p queue x z
      became_frees i =
          let f = filter_in (became s p (Rows x q rows) ms) z (active s p ms') (subst (λ l. IsIn z l) (became_active s v p (Rows x q rows) ms all_fit) i) in
          let b = and_parts (is_ready s p ms' z) (not (is_ready s p ms z)) f.1 in
          let news = rows_news s p x q rows ms z b.0 (not_true (is_ready s p ms z) b.1) in
          freed_are s p queue (active s p ms) has x z (subst (λ l. IsIn z l) left f.0) news.3
          (subst (λ l. is_first s p l z ≡ true) left (sym (ready_among s v p ms' z f.0) ∙ b.0))

      -- and one that is let go became ready
      pub frees_became : Frees s p queue x z → IsIn z (became_ready s p (Rows x q rows) ms)
      frees_became fr =
          let f = freed_from s p queue (active s p ms) has x z fr in
          let i : IsIn z (active s p ms') = subst (λ l. IsIn z l) (sym left) f.0 in
          let now_ready : is_ready s p ms' z ≡ true = ready_among s v p ms' z i ∙ subst (λ l. is_first s p l z ≡ true) (sym left) f.2 in
          let other : id_eq z x ≡ false = not_true (id_eq z x) (filter_in (λ y. not (id_eq y x)) z (active s p ms) f.0).1 in
          let stands = (filter_in (λ y. participates s y p && not (is_finished s ms' y)) z (taken s ms') i).1 in
          let un' : is_finished s ms' z ≡ false = not_true (is_finished s ms' z) (and_parts (participates s z p) (not (is_finished s ms' z)) stands).1 in
          let un : is_finished s ms z ≡ false = ⊎_elim (λ t. absurd (not_both (is_finished s ms' z) (finished_more s (Rows x q rows) ms z t) un')) (λ n. n) (is_or_not (is_finished s ms z)) in
          let not_before : is_ready s p ms z ≡ false = ⊎_elim (λ t. absurd (was_not t f.1 other un)) (λ n. n) (is_or_not (is_ready s p ms z)) in
          subst (λ l. IsIn z l) (sym (became_active s v p (Rows x q rows) ms all_fit))
          (in_filter (became s p (Rows x q rows) ms) z (active s p ms') i (and_true (is_ready s p ms' z) (not (is_ready s p ms z)) now_ready (ap not not_before)))
        where
          turned : id_eq z x ≡ false → id_eq x z ≡ false
          turned e = ⊎_elim (λ t. ⊎_elim (λ u. absurd (not_both (id_eq z x) u.0 e)) (λ u. absurd (u.1 (sym t.1))) (id_tells z x)) (λ t. t.0) (id_tells x z)

          was_not : is_ready s p ms z ≡ true → clash s p z x ≡ true → id_eq z x ≡ false → is_finished s ms z ≡ false → ⊥
          was_not t c other un =
              let rz : Ready s p ms z = ready_is s p ms z t in
              let rx : Ready s p ms x = ready_is s p ms x was_ready in
              ⊎_elim
              (λ k. ⊎_elim (λ d. not_both (is_finished s ms x) d (unfinished s p ms fit x q rows suits)) (λ n. not_both (clash s p z x) c n) (rz.free x k))
              (λ k. ⊎_elim (λ d. not_both (is_finished s ms z) d un) (λ n. not_both (clash s p x z) (clash_turned z x c) n) (rx.free z k))
              (one_before x z (order s) rx.ordered rz.ordered (turned other) other)

-- the numbers of those that are let go

module _ (s : Setting) (p : ℕ) (queue : Key → List Request) (x : TxnId) where
  pub freed_numbers : (n : Number) → IsIn n (freed_by s p queue x (accesses_at s p x)) → (z : TxnId) × (n ≡ number s z) × Frees s p queue x z
  freed_numbers n i =
      let a = flat_in (freed_on s p queue x) n (accesses_at s p x) i in
      let test : Request → Bool = λ r. (r.writes || writes a.0.mode) && all_free s p queue r.id (Some x) in
      let m = in_map_from (λ (r : Request). number s r.id) n (filter test (heads x (queue a.0.key))) a.2 in
      let f = filter_in test m.0 (heads x (queue a.0.key)) m.1 in
      let b = and_parts (m.0.writes || writes a.0.mode) (all_free s p queue m.0.id (Some x)) f.1 in
      (m.0.id, m.2, (a.0, a.1, m.0, f.0, refl, b.0, b.1))

  pub numbers_freed : (z : TxnId) → Frees s p queue x z → IsIn (number s z) (freed_by s p queue x (accesses_at s p x))
  numbers_freed z fr =
      let a : Access = fr.0 in
      let r : Request = fr.2 in
      let test : Request → Bool = λ r. (r.writes || writes a.mode) && all_free s p queue r.id (Some x) in
      let free : all_free s p queue r.id (Some x) ≡ true = subst (λ y. all_free s p queue y (Some x) ≡ true) (sym fr.4) fr.6 in
      in_flat (freed_on s p queue x) a (number s z) (accesses_at s p x) fr.1
      (subst (λ y. IsIn (number s y) (freed_on s p queue x a)) fr.4
      (in_map (λ (k : Request). number s k.id) r (filter test (heads x (queue a.key))) (in_filter test r (heads x (queue a.key)) fr.3 (and_true (r.writes || writes a.mode) (all_free s p queue r.id (Some x)) fr.5 free))))

-- the numbers of transactions by their ids
by_ids : (s : Setting) (ns : List Number) → ((n : Number) → IsIn n ns → n ≡ number s n.id) → map (number s) (map (λ n. n.id) ns) ≡ ns
by_ids s [] h = refl
by_ids s (n ∷ ns) h = ap (λ l. number s n.id ∷ l) (by_ids s ns (λ k i. h k (inr i))) ∙ ap (λ k. k ∷ ns) (sym (h n (inl refl)))

module _ (s : Setting) (v : Valid s) (p : ℕ) (ms : List Msg) (fit : AllFit s p ms) (x : TxnId) (q : ℕ) (rows : List Keyed) (suits : Suits s p q (Rows x q rows) ms) (done : is_finished s (Rows x q rows ∷ ms) x ≡ true) (queue : Key → List Request) (has : (key : Key) → queue key ≡ for_key key (asked s p (active s p ms))) where
  abbrev let_go : List Number
  let_go = freed_by s p queue x (accesses_at s p x)

  -- those that became ready are those that are let go, in the order of their numbers
  pub ready_are : became_ready s p (Rows x q rows) ms ≡ map (λ n. n.id) (put_numbers [] let_go)
  ready_are =
      rising_same s (became_ready s p (Rows x q rows) ms) (map (λ (n : Number). n.id) (put_numbers [] let_go))
      (rising_filter s (λ z. is_ready s p (Rows x q rows ∷ ms) z && not (is_ready s p ms z)) (order s) (rising s v))
      (rising_ids s (map (λ (n : Number). n.id) (put_numbers [] let_go)) (subst RisingNumbers (sym (by_ids s (put_numbers [] let_go) (λ n i. let f = from n i in f.1 ∙ sym (ap (λ (k : Number). number s k.id) f.1)))) (rising_numbers let_go)))
      (λ z i. in_map (λ (n : Number). n.id) (number s z) (put_numbers [] let_go) (in_put_new (number s z) [] let_go (numbers_freed s p queue x z (became_frees s v p ms fit x q rows suits done queue has z i))))
      (λ z i.
      let m = in_map_from (λ (n : Number). n.id) z (put_numbers [] let_go) i in
      let f = from m.0 m.1 in
      let is : z ≡ f.0 = m.2 ∙ ap (λ (k : Number). k.id) f.1 in
      subst (λ y. IsIn y (became_ready s p (Rows x q rows) ms)) (sym is) (frees_became s v p ms fit x q rows suits done queue has f.0 f.2))
    where
      from : (n : Number) → IsIn n (put_numbers [] let_go) → (z : TxnId) × (n ≡ number s z) × Frees s p queue x z
      from n i = ⊎_elim (λ a. absurd a) (λ b. freed_numbers s p queue x n b) (put_cases n [] let_go i)
