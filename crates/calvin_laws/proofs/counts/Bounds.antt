-- A run has at most so many entries.
use Rattle.std.proofs.Common.{◌≡◌, ℕ, zero, suc, ◌+◌, ◌*◌, ◌<◌, ◌≤◌, List, [], ◌∷◌, ◌++◌, length, map, Bool, true, false, cond, ◌&&◌, eqb, ltb, refl, sym, ap, ◌∙◌, subst, inl, inr, ⊎_elim, arith, true≢false}
use Rattle.std.proofs.lemmas.Grind.{flat_map-append}
use Rattle.std.proofs.lemmas.List.{append-nil}
use Rattle.deneva_base.specs.declared.numbers.TxnId.{TxnId}
use Rattle.deneva_base.specs.Lists.{IsIn}
use Rattle.deneva_base.proofs.Membership.{and_parts, in_map}
use Rattle.server_core.specs.declared.messages.Msg.{Msg}
use Rattle.server_core.specs.declared.messages.Msg.TheVariants.{Tick, Batch, Rows, Finished}
use Rattle.server_core.specs.declared.messages.Mail.{Mail}
use Rattle.server_core.specs.declared.messages.Entry.{Entry}
use Rattle.txn_program.specs.Transactions.{numbers_below}
use Rattle.server_core.specs.Runs.{heard}
use Rattle.server_core.specs.Counts.{count}
use Rattle.server_core.proofs.counts.Conserved.{handled}
use Rattle.server_core.proofs.counts.Local.{sent_to, heard_counts}
use Rattle.server_core.proofs.counts.Prepares.{occurs}
use Rattle.server_core.specs.Setting.{Setting, home, participants_for}
use Rattle.server_core.specs.GlobalOrder.{Slot, slots, slots_of, epochs}
use Rattle.deneva_base.specs.Keys.{id_eq}
use Rattle.server_core.specs.CalvinScheduler.{ticks, is_ready, is_finished}
use Rattle.server_core.specs.CalvinRuns.{IsRun}
use Rattle.server_core.specs.CalvinProper.{Valid}
use Rattle.calvin_laws.proofs.counts.RightMails.{RightMsg, Right, rights}
use Rattle.server_core.specs.Limits.{count_entries, sum_of}
use Rattle.server_core.specs.CalvinLimits.{most_ordered, is_clock, is_about}
use Rattle.server_core.proofs.lists.ListTests.{below_in, same_number, id_self, in_below, in_flat, below_length}
use Rattle.calvin_laws.proofs.order.Nodes.{id_is}
use Rattle.calvin_laws.proofs.counts.Counts.{is_tick, is_batch, is_rows, is_done, occurs_once}
use Rattle.calvin_laws.proofs.counts.Ledgers.{rows_ledger, done_ledger, batch_ledger, timely}

abbrev pub most : ℕ → ℕ
most m = m * m + m

sum_plus : {K : Type 0} (f g : K → ℕ) (ks : List K) → sum_of (λ k. f k + g k) ks ≡ sum_of f ks + sum_of g ks
sum_plus f g [] = omega arith
sum_plus f g (k ∷ ks) = omega (arith, sum_plus f g ks)

sum_some : {K : Type 0} (f : K → ℕ) (k : K) (ks : List K) → IsIn k ks → 1 ≤ f k → 1 ≤ sum_of f ks
sum_some f k [] i h = absurd i
sum_some f k (j ∷ ks) i h = ⊎_elim (λ (is : k ≡ j). let h' : 1 ≤ f j = subst (λ z. 1 ≤ f z) is h in omega (arith, h')) (λ r. omega (arith, sum_some f k ks r h)) i

sum_none : {K : Type 0} (ks : List K) → sum_of (λ k. 0) ks ≡ 0
sum_none [] = refl
sum_none (k ∷ ks) = omega (arith, sum_none ks)

sum_most : {K : Type 0} (f : K → ℕ) (c : ℕ) (ks : List K) → ((k : K) → IsIn k ks → f k ≤ c) → sum_of f ks ≤ length ks * c
sum_most f c [] h = omega arith
sum_most f c (k ∷ ks) h = omega (arith, h k (inl refl), sum_most f c ks (λ j i. h j (inr i)), more (length ks))
  where
    more : (n : ℕ) → suc n * c ≡ c + n * c
    more n = omega arith

-- each mail that passes t passes one of the tests
union : {K : Type 0} (t : Mail → Bool) (f : K → Mail → Bool) (ks : List K) (xs : List Mail) → ((x : Mail) → IsIn x xs → t x ≡ true → (k : K) × IsIn k ks × (f k x ≡ true)) → count t xs ≤ sum_of (λ k. count (f k) xs) ks
union t f ks [] h = omega (arith, sum_none ks)
union {K} t f ks (x ∷ xs) h =
    omega (
      arith,
      union t f ks xs (λ y i. h y (inr i)),
      sum_plus (λ k. cond (f k x) 1 0) (λ k. count (f k) xs) ks,
      head (t x) refl,
    )
  where
    head : (b : Bool) → t x ≡ b → cond b 1 0 ≤ sum_of (λ k. cond (f k x) 1 0) ks
    head true e = let n = h x (inl refl) e in sum_some (λ k. cond (f k x) 1 0) n.0 ks n.1 (subst (λ b. 1 ≤ cond b 1 0) (sym n.2) (omega arith))
    head false e = omega arith

abbrev row : ℕ → List ℕ → List Slot
row n qs = map (λ q. record { epoch = n; seq = q }) qs

counted : (t : Msg → Bool) (H : List Entry) → count_entries (λ e. t e.msg) H ≡ count (λ m. t m.msg) (handled H)
counted t [] = refl
counted t (e ∷ H) = omega (arith, counted t H)

module _ (s : Setting) (v : Valid s) (H : List Entry) (flight : List Mail) (run : IsRun s H flight) where
  right : (y : Mail) → IsIn y (handled H) → Right s H y
  right y i = rights s v H flight run y (inr i)

  tick_few : (p e : ℕ) → count (sent_to p (is_tick e)) (handled H) ≤ 1
  tick_few p e = omega (arith, heard_counts (is_tick e) p H, timely s v H flight run p e, few (ltb e (ticks (heard p H))))
    where
      few : (b : Bool) → cond b 1 0 ≤ 1
      few true = omega arith
      few false = omega arith

  batch_few : (p : ℕ) (l : Slot) → p < s.parts → count (sent_to p (is_batch l)) (handled H) ≤ 1
  batch_few p l h = omega (arith, heard_counts (is_batch l) p H, batch_ledger s v H flight run l p h, heard_counts (is_tick l.epoch) l.seq H, tick_few l.seq l.epoch)

  rows_few : (p q : ℕ) (x : TxnId) → count (sent_to p (is_rows x q)) (handled H) ≤ 1
  rows_few p q x = omega (arith, heard_counts (is_rows x q) p H, rows_ledger s v H flight run x q p, few (is_ready s q (heard q H) x) (occurs_once s x p))
    where
      few : (b : Bool) → occurs p (participants_for s x) ≤ 1 → cond b (occurs p (participants_for s x)) 0 ≤ 1
      few true h = h
      few false h = omega arith

  done_few : (p q : ℕ) (x : TxnId) → IsIn x s.ids → count (sent_to p (is_done x q)) (handled H) ≤ 1
  done_few p q x i = omega (arith, heard_counts (is_done x q) p H, done_ledger s v H flight run x q p i, few (is_finished s (heard q H) x) (eqb (home s x) p))
    where
      few : (a b : Bool) → cond a (cond b 1 0) 0 ≤ 1
      few true true = omega arith
      few true false = omega arith
      few false b = omega arith

  -- Ticks and Batches
  abbrev any_tick : Msg → Bool
  any_tick (Tick e) = true
  any_tick m = false

  abbrev any_batch : Msg → Bool
  any_batch (Batch e q ids) = true
  any_batch m = false

  ticks_most : count (λ m. any_tick m.msg) (handled H) ≤ s.parts * (epochs s * 1)
  ticks_most =
      subst (λ n. count (λ m. any_tick m.msg) (handled H) ≤ n * (epochs s * 1)) (below_length s.parts)
      (trans' (union (λ m. any_tick m.msg) (λ p m. any_tick m.msg && eqb m.to p) (numbers_below s.parts) (handled H) (λ x i e. at x e x.msg refl (right x i)))
      (sum_most (λ p. count (λ m. any_tick m.msg && eqb m.to p) (handled H)) (epochs s * 1) (numbers_below s.parts) (λ p i.
      subst (λ n. count (λ m. any_tick m.msg && eqb m.to p) (handled H) ≤ n * 1) (below_length (epochs s))
      (trans' (union (λ m. any_tick m.msg && eqb m.to p) (λ e. sent_to p (is_tick e)) (numbers_below (epochs s)) (handled H) (λ x j f. which p x f x.msg refl (right x j)))
      (sum_most (λ e. count (sent_to p (is_tick e)) (handled H)) 1 (numbers_below (epochs s)) (λ e j. tick_few p e))))))
    where
      trans' : {a b c : ℕ} → a ≤ b → b ≤ c → a ≤ c
      trans' h k = omega (arith, h, k)

      at : (x : Mail) → any_tick x.msg ≡ true → (m : Msg) → x.msg ≡ m → Right s H x → (p : ℕ) × IsIn p (numbers_below s.parts) × ((any_tick x.msg && eqb x.to p) ≡ true)
      at x e (Tick d) is r' = let r : RightMsg s H x.from x.to (Tick d) = subst (λ z. RightMsg s H x.from x.to z) is r' in (x.to, in_below x.to s.parts r.2, rw (is, same_number x.to) refl)
      at x e m is r = absurd (true≢false (sym e ∙ ap any_tick is))

      which : (p : ℕ) (x : Mail) → (any_tick x.msg && eqb x.to p) ≡ true → (m : Msg) → x.msg ≡ m → Right s H x → (e : ℕ) × IsIn e (numbers_below (epochs s)) × (sent_to p (is_tick e) x ≡ true)
      which p x f (Tick d) is r' =
          let r : RightMsg s H x.from x.to (Tick d) = subst (λ z. RightMsg s H x.from x.to z) is r' in
          let f' : eqb x.to p ≡ true = subst (λ z. (any_tick z && eqb x.to p) ≡ true) is f in
          (d, in_below d (epochs s) r.1, rw (is, same_number d) f')
      which p x f m is r = absurd (true≢false (sym f ∙ ap (λ z. any_tick z && eqb x.to p) is))

  slots_length : (n : ℕ) → length (slots_of s.parts n) ≡ n * s.parts
  slots_length zero = omega arith
  slots_length (suc n) =
      let one : List Slot = map (λ q. record { epoch = n; seq = q }) (numbers_below s.parts) in
      let a : slots_of s.parts (suc n) ≡ slots_of s.parts n ++ (one ++ []) = flat_map-append (λ d. map (λ r. record { epoch = d; seq = r }) (numbers_below s.parts)) (numbers_below n) (n ∷ []) in
      let b : suc n * s.parts ≡ n * s.parts + s.parts = next n s.parts in
      omega (arith, ap {B = ℕ} (λ (l : List Slot). length l) (a ∙ ap (λ l. slots_of s.parts n ++ l) (append-nil one)), length-more (slots_of s.parts n) one, slots_length n, mapped n (numbers_below s.parts), below_length s.parts, b)
    where
      next : (a c : ℕ) → suc a * c ≡ a * c + c
      next a c = omega arith

      length-more : (xs ys : List Slot) → length (xs ++ ys) ≡ length xs + length ys
      length-more [] ys = omega arith
      length-more (x ∷ xs) ys = omega (arith, length-more xs ys)

      mapped : (n : ℕ) (qs : List ℕ) → length (row n qs) ≡ length qs
      mapped n [] = refl
      mapped n (q ∷ qs) = ap suc (mapped n qs)

  le_trans : {a b c : ℕ} → a ≤ b → b ≤ c → a ≤ c
  le_trans h k = omega (arith, h, k)

  batches_most : count (λ m. any_batch m.msg) (handled H) ≤ s.parts * (epochs s * s.parts * 1)
  batches_most =
      subst (λ n. count (λ m. any_batch m.msg) (handled H) ≤ n * (epochs s * s.parts * 1)) (below_length s.parts)
      (le_trans (union (λ m. any_batch m.msg) (λ p m. any_batch m.msg && eqb m.to p) (numbers_below s.parts) (handled H) (λ x i e. at x e x.msg refl (right x i)))
      (sum_most (λ p. count (λ m. any_batch m.msg && eqb m.to p) (handled H)) (epochs s * s.parts * 1) (numbers_below s.parts) (λ p i.
      subst (λ n. count (λ m. any_batch m.msg && eqb m.to p) (handled H) ≤ n * 1) (slots_length (epochs s))
      (le_trans (union (λ m. any_batch m.msg && eqb m.to p) (λ l. sent_to p (is_batch l)) (slots s) (handled H) (λ x j f. which p x f x.msg refl (right x j)))
      (sum_most (λ l. count (sent_to p (is_batch l)) (handled H)) 1 (slots s) (λ l j. batch_few p l (below_in p s.parts i)))))))
    where
      at : (x : Mail) → any_batch x.msg ≡ true → (m : Msg) → x.msg ≡ m → Right s H x → (p : ℕ) × IsIn p (numbers_below s.parts) × ((any_batch x.msg && eqb x.to p) ≡ true)
      at x e (Batch d q ids) is r' = let r : RightMsg s H x.from x.to (Batch d q ids) = subst (λ z. RightMsg s H x.from x.to z) is r' in (x.to, in_below x.to s.parts r.4, rw (is, same_number x.to) refl)
      at x e m is r = absurd (true≢false (sym e ∙ ap any_batch is))

      which : (p : ℕ) (x : Mail) → (any_batch x.msg && eqb x.to p) ≡ true → (m : Msg) → x.msg ≡ m → Right s H x → (l : Slot) × IsIn l (slots s) × (sent_to p (is_batch l) x ≡ true)
      which p x f (Batch d q ids) is r' =
          let r : RightMsg s H x.from x.to (Batch d q ids) = subst (λ z. RightMsg s H x.from x.to z) is r' in
          let f' : eqb x.to p ≡ true = subst (λ z. (any_batch z && eqb x.to p) ≡ true) is f in
          let l : Slot = record { epoch = d; seq = q } in (
            l,
            in_flat (λ e. map (λ k. record { epoch = e; seq = k }) (numbers_below s.parts)) d l (numbers_below (epochs s)) (in_below d (epochs s) r.2) (in_map (λ k. record { epoch = d; seq = k }) q (numbers_below s.parts) (in_below q s.parts r.3)),
            rw (is, same_number d, same_number q) f',
          )
      which p x f m is r = absurd (true≢false (sym f ∙ ap (λ z. any_batch z && eqb x.to p) is))

  pub clock_most : count_entries (λ e. is_clock e.msg) H ≤ epochs s * (s.parts + s.parts * s.parts)
  clock_most = omega (arith, counted is_clock H, both (handled H), ticks_most, batches_most, spread s.parts (epochs s))
    where
      both : (xs : List Mail) → count (λ m. is_clock m.msg) xs ≡ count (λ m. any_tick m.msg) xs + count (λ m. any_batch m.msg) xs
      both [] = omega arith
      both (x ∷ xs) = omega (arith, both xs, one x.msg)
        where
          one : (m : Msg) → cond (is_clock m) 1 0 ≡ cond (any_tick m) 1 0 + cond (any_batch m) 1 0
          one (Tick e) = omega arith
          one (Batch e q ids) = omega arith
          one m = omega arith

      spread : (n e : ℕ) → n * (e * 1) + n * (e * n * 1) ≡ e * (n + n * n)
      spread n e = omega arith

  -- each transaction

  module _ (x : TxnId) (ix : IsIn x s.ids) where
    abbrev any_rows : Msg → Bool
    any_rows (Rows y q rows) = id_eq y x
    any_rows m = false

    abbrev any_done : Msg → Bool
    any_done (Finished y q n) = id_eq y x
    any_done m = false

    rows_most : count (λ m. any_rows m.msg) (handled H) ≤ length (participants_for s x) * (length (participants_for s x) * 1)
    rows_most =
        le_trans (union (λ m. any_rows m.msg) (λ p m. any_rows m.msg && eqb m.to p) (participants_for s x) (handled H) (λ y i e. at y e y.msg refl (right y i)))
        (sum_most (λ p. count (λ m. any_rows m.msg && eqb m.to p) (handled H)) (length (participants_for s x) * 1) (participants_for s x) (λ p i.
        le_trans (union (λ m. any_rows m.msg && eqb m.to p) (λ q. sent_to p (is_rows x q)) (participants_for s x) (handled H) (λ y j f. which p y f y.msg refl (right y j)))
        (sum_most (λ q. count (sent_to p (is_rows x q)) (handled H)) 1 (participants_for s x) (λ q j. rows_few p q x))))
      where
        at : (y : Mail) → any_rows y.msg ≡ true → (m : Msg) → y.msg ≡ m → Right s H y → (p : ℕ) × IsIn p (participants_for s x) × ((any_rows y.msg && eqb y.to p) ≡ true)
        at y e (Rows z q rows) is r' =
            let r : RightMsg s H y.from y.to (Rows z q rows) = subst (λ w. RightMsg s H y.from y.to w) is r' in
            let e' : id_eq z x ≡ true = subst (λ w. any_rows w ≡ true) is e in
            (y.to, subst (λ w. IsIn y.to (participants_for s w)) (id_is z x e') r.3, rw is (rw (e', same_number y.to) refl))
        at y e m is r = absurd (true≢false (sym e ∙ ap any_rows is))

        which : (p : ℕ) (y : Mail) → (any_rows y.msg && eqb y.to p) ≡ true → (m : Msg) → y.msg ≡ m → Right s H y → (q : ℕ) × IsIn q (participants_for s x) × (sent_to p (is_rows x q) y ≡ true)
        which p y f (Rows z q rows) is r' =
            let r : RightMsg s H y.from y.to (Rows z q rows) = subst (λ w. RightMsg s H y.from y.to w) is r' in
            let f' : (id_eq z x && eqb y.to p) ≡ true = subst (λ w. (any_rows w && eqb y.to p) ≡ true) is f in
            let b = and_parts (id_eq z x) (eqb y.to p) f' in
            (q, subst (λ w. IsIn q (participants_for s w)) (id_is z x b.0) (subst (λ w. IsIn w (participants_for s z)) (sym r.0) r.2), rw is (rw (b.0, same_number q, b.1) refl))
        which p y f m is r = absurd (true≢false (sym f ∙ ap (λ z. any_rows z && eqb y.to p) is))

    done_most : count (λ m. any_done m.msg) (handled H) ≤ length (participants_for s x) * 1
    done_most =
        le_trans (union (λ m. any_done m.msg) (λ q. sent_to (home s x) (is_done x q)) (participants_for s x) (handled H) (λ y i e. which y e y.msg refl (right y i)))
        (sum_most (λ q. count (sent_to (home s x) (is_done x q)) (handled H)) 1 (participants_for s x) (λ q j. done_few (home s x) q x ix))
      where
        which : (y : Mail) → any_done y.msg ≡ true → (m : Msg) → y.msg ≡ m → Right s H y → (q : ℕ) × IsIn q (participants_for s x) × (sent_to (home s x) (is_done x q) y ≡ true)
        which y e (Finished z q n) is r' =
            let r : RightMsg s H y.from y.to (Finished z q n) = subst (λ w. RightMsg s H y.from y.to w) is r' in
            let e' : id_eq z x ≡ true = subst (λ w. any_done w ≡ true) is e in
            let to : y.to ≡ home s x = r.1 ∙ ap (home s) (id_is z x e') in
            (q, subst (λ w. IsIn q (participants_for s w)) (id_is z x e') (subst (λ w. IsIn w (participants_for s z)) (sym r.0) r.3), rw (is, to) (rw (e', same_number q, same_number (home s x)) refl))
        which y e m is r = absurd (true≢false (sym e ∙ ap any_done is))

    pub each_most : count_entries (λ e. is_about x e.msg) H ≤ most (length (participants_for s x))
    each_most = omega (arith, counted (is_about x) H, both (handled H), rows_most, done_most, spread (length (participants_for s x)))
      where
        both : (xs : List Mail) → count (λ m. is_about x m.msg) xs ≡ count (λ m. any_rows m.msg) xs + count (λ m. any_done m.msg) xs
        both [] = omega arith
        both (y ∷ xs) = omega (arith, both xs, one y.msg)
          where
            one : (m : Msg) → cond (is_about x m) 1 0 ≡ cond (any_rows m) 1 0 + cond (any_done m) 1 0
            one (Rows z q rows) = omega arith
            one (Finished z q n) = omega arith
            one m = omega arith

        spread : (n : ℕ) → n * (n * 1) + n * 1 ≡ n * n + n
        spread n = ap (λ k. n * k + n * 1) (one n) ∙ ap (λ k. n * n + k) (one n)
          where
            one : (n : ℕ) → n * 1 ≡ n
            one n = omega arith

  handled_length : (H : List Entry) → length H ≡ count (λ m. true) (handled H)
  handled_length [] = refl
  handled_length (e ∷ H) = omega (arith, handled_length H)

  most_sum : (xs : List TxnId) → ((x : TxnId) → IsIn x xs → IsIn x s.ids) → sum_of (λ x. count (λ m. is_about x m.msg) (handled H)) xs ≤ sum_of (λ x. most (length (participants_for s x))) xs
  most_sum [] h = omega arith
  most_sum (x ∷ xs) h = omega (arith, most_sum xs (λ y i. h y (inr i)), each_most x (h x (inl refl)), counted (is_about x) H)

  -- a mail is of the clock or about a transaction of the workload
  pub all_most : length H ≤ most_ordered s
  all_most =
      omega (
        arith,
        handled_length H,
        union (λ m. not' (is_clock m.msg)) (λ x m. is_about x m.msg) s.ids (handled H) (λ y i e. which y e y.msg refl (right y i)),
        most_sum s.ids (λ x i. i),
        clock_most,
        counted is_clock H,
        halves (handled H),
      )
    where
      not' : Bool → Bool
      not' true = false
      not' false = true

      halves : (xs : List Mail) → count (λ m. true) xs ≡ count (λ m. is_clock m.msg) xs + count (λ m. not' (is_clock m.msg)) xs
      halves [] = omega arith
      halves (y ∷ xs) = omega (arith, halves xs, one (is_clock y.msg))
        where
          one : (b : Bool) → 1 ≡ cond b 1 0 + cond (not' b) 1 0
          one true = omega arith
          one false = omega arith

      which : (y : Mail) → not' (is_clock y.msg) ≡ true → (m : Msg) → y.msg ≡ m → Right s H y → (x : TxnId) × IsIn x s.ids × (is_about x y.msg ≡ true)
      which y e (Tick d) is r = absurd (true≢false (sym e ∙ ap (λ z. not' (is_clock z)) is))
      which y e (Batch d q ids) is r = absurd (true≢false (sym e ∙ ap (λ z. not' (is_clock z)) is))
      which y e (Rows z q rows) is r' = let r : RightMsg s H y.from y.to (Rows z q rows) = subst (λ w. RightMsg s H y.from y.to w) is r' in (z, r.1, rw is (id_self z))
      which y e (Finished z q n) is r' = let r : RightMsg s H y.from y.to (Finished z q n) = subst (λ w. RightMsg s H y.from y.to w) is r' in (z, r.2, rw is (id_self z))
      which y e m is r = absurd (subst (λ w. RightMsg s H y.from y.to w) is r)
