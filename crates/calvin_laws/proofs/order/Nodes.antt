-- What a node knows grows with its messages.
use Rattle.std.proofs.Common.{◌≡◌, ◌⊎◌, ℕ, ◌<◌, ◌≤◌, ◌%◌, ◌-◌, List, [], ◌∷◌, Bool, true, false, cond, not, ◌&&◌, ◌||◌, eqb, refl, sym, ◌∙◌, subst, inl, inr, ⊎_elim, arith, true≢false}
use Rattle.std.specs.List.{flat_map}
use Rattle.std.proofs.lemmas.Bool.Decides.{eqb_tells}
use Rattle.deneva_base.specs.declared.numbers.TxnId.{TxnId}
use Rattle.deneva_base.specs.Lists.{IsIn}
use Rattle.deneva_base.specs.declared.rows.Keyed.{Keyed}
use Rattle.deneva_base.proofs.Membership.{in_left, in_right, in_cases, any_at, in_filter, and_parts, and_true, filter_in}
use Rattle.server_core.specs.declared.messages.Msg.{Msg}
use Rattle.server_core.specs.declared.messages.Msg.TheVariants.{Tick, Batch, Rows}
use Rattle.txn_program.specs.Transactions.{numbers_below}
use Rattle.deneva_base.specs.Partitions.{partition_of}
use Rattle.deneva_base.specs.declared.keys.Access.{Access}
use Rattle.server_core.specs.Setting.{Setting, participants_for}
use Rattle.server_core.specs.CalvinScheduler.{participates, clash, has_batch, has_rows, rows_from, as_far, taken, is_finished, unblocked, is_ready}
use Rattle.server_core.specs.GlobalOrder.{Slot, slots, batch, order, before, has_id}
use Rattle.deneva_base.specs.Keys.{id_eq}
use Rattle.server_core.proofs.lists.ListTests.{or_cases, or_left, or_right, id_tells, id_self, same_number, has_in, in_has, all_at, all_from, not_true, below_in, in_below}
use Rattle.deneva_base.specs.declared.keys.Key.{Key}
use Rattle.std.proofs.Math.Nat.{mod-lt}

pub batch_more : (m : Msg) (ms : List Msg) (l : Slot) → has_batch ms l ≡ true → has_batch (m ∷ ms) l ≡ true
batch_more (Batch e q ids) ms l h = or_right (eqb e l.epoch && eqb q l.seq) (has_batch ms l) h
batch_more m ms l h = h

pub rows_more : (m : Msg) (ms : List Msg) (x : TxnId) (q : ℕ) → has_rows ms x q ≡ true → has_rows (m ∷ ms) x q ≡ true
rows_more (Rows y r rows) ms x q h = or_right (id_eq y x && eqb r q) (has_rows ms x q) h
rows_more m ms x q h = h

pub number_is : (a b : ℕ) → eqb a b ≡ true → a ≡ b
number_is a b e = ⊎_elim (λ t. t.1) (λ t. absurd (true≢false (sym e ∙ t.0))) (eqb_tells a b)

pub id_is : (x y : TxnId) → id_eq x y ≡ true → x ≡ y
id_is x y e = ⊎_elim (λ t. t.1) (λ t. absurd (true≢false (sym e ∙ t.0))) (id_tells x y)

-- the Rows that came
pub rows_in : (ms : List Msg) (x : TxnId) (q : ℕ) → has_rows ms x q ≡ true → IsIn (Rows x q (rows_from ms x q)) ms
rows_in [] x q h = absurd (true≢false (sym h))
rows_in (Rows y r rows ∷ ms) x q h = go (id_eq y x && eqb r q) refl h (rows_in ms x q)
  where
    go : (b : Bool) → (id_eq y x && eqb r q) ≡ b → (b || has_rows ms x q) ≡ true → (has_rows ms x q ≡ true → IsIn (Rows x q (rows_from ms x q)) ms) → IsIn (Rows x q (cond b rows (rows_from ms x q))) (Rows y r rows ∷ ms)
    go true e h' next = let both = and_parts (id_eq y x) (eqb r q) e in inl (λ i. Rows (sym (id_is y x both.0) i) (sym (number_is r q both.1) i) rows)
    go false e h' next = inr (next h')
rows_in (Tick e ∷ ms) x q h = inr (rows_in ms x q h)
rows_in (m ∷ ms) x q h = inr (rows_in ms x q h)

pub in_rows : (ms : List Msg) (x : TxnId) (q : ℕ) (rows : List Keyed) → IsIn (Rows x q rows) ms → has_rows ms x q ≡ true
in_rows [] x q rows i = absurd i
in_rows (m ∷ ms) x q rows i =
    ⊎_elim
    (λ (is : Rows x q rows ≡ m). subst (λ z. has_rows (z ∷ ms) x q ≡ true) is (or_left (id_eq x x && eqb q q) (has_rows ms x q) (and_true (id_eq x x) (eqb q q) (id_self x) (same_number q))))
    (λ r. rows_more m ms x q (in_rows ms x q rows r))
    i

module _ (s : Setting) where
  pub finished_more : (m : Msg) (ms : List Msg) (x : TxnId) → is_finished s ms x ≡ true → is_finished s (m ∷ ms) x ≡ true
  finished_more m ms x h = all_from (has_rows (m ∷ ms) x) (participants_for s x) (λ q i. rows_more m ms x q (all_at (has_rows ms x) q (participants_for s x) h i))

  as_far_more : (f g : Slot → Bool) (x : TxnId) (ls : List Slot) → ((l : Slot) → f l ≡ true → g l ≡ true) → IsIn x (flat_map (batch s) (as_far f ls)) → IsIn x (flat_map (batch s) (as_far g ls))
  as_far_more f g x [] more i = absurd i
  as_far_more f g x (l ∷ ls) more i = go (f l) refl i (as_far_more f g x ls more)
    where
      go : (b : Bool) → f l ≡ b → IsIn x (flat_map (batch s) (cond b (l ∷ as_far f ls) [])) → (IsIn x (flat_map (batch s) (as_far f ls)) → IsIn x (flat_map (batch s) (as_far g ls))) → IsIn x (flat_map (batch s) (as_far g (l ∷ ls)))
      go false e j next = absurd j
      go true e j next =
          let e' : g l ≡ true = more l e in
          rw e'
          (⊎_elim
          (λ a. in_left x (batch s l) (flat_map (batch s) (as_far g ls)) a)
          (λ b. in_right x (batch s l) (flat_map (batch s) (as_far g ls)) (next b))
          (in_cases x (batch s l) (flat_map (batch s) (as_far f ls)) j))

  pub taken_more : (m : Msg) (ms : List Msg) (x : TxnId) → has_id x (taken s ms) ≡ true → has_id x (taken s (m ∷ ms)) ≡ true
  taken_more m ms x h = in_has x (taken s (m ∷ ms)) (as_far_more (has_batch ms) (has_batch (m ∷ ms)) x (slots s) (batch_more m ms) (has_in x (taken s ms) h))

  pub ready_more : (p : ℕ) (m : Msg) (ms : List Msg) (x : TxnId) → is_ready s p ms x ≡ true → is_ready s p (m ∷ ms) x ≡ true
  ready_more p m ms x h =
      let a = and_parts (has_id x (taken s ms)) (participates s x p && unblocked s p ms x) h in
      let b = and_parts (participates s x p) (unblocked s p ms x) a.1 in
      and_true (has_id x (taken s (m ∷ ms))) (participates s x p && unblocked s p (m ∷ ms) x) (taken_more m ms x a.0)
      (and_true (participates s x p) (unblocked s p (m ∷ ms) x) b.0
      (all_from (λ y. is_finished s (m ∷ ms) y || not (clash s p x y)) (before x (order s))
      (λ y i. ⊎_elim
      (λ f. or_left (is_finished s (m ∷ ms) y) (not (clash s p x y)) (finished_more m ms y f))
      (λ n. or_right (is_finished s (m ∷ ms) y) (not (clash s p x y)) n)
      (or_cases (is_finished s ms y) (not (clash s p x y)) (all_at (λ z. is_finished s ms z || not (clash s p x z)) y (before x (order s)) b.1 i)))))

  pub as_far_in : (f : Slot → Bool) (x : TxnId) (ls : List Slot) → IsIn x (flat_map (batch s) (as_far f ls)) → IsIn x (flat_map (batch s) ls)
  as_far_in f x [] i = i
  as_far_in f x (l ∷ ls) i = go (f l) i (as_far_in f x ls)
    where
      go : (b : Bool) → IsIn x (flat_map (batch s) (cond b (l ∷ as_far f ls) [])) → (IsIn x (flat_map (batch s) (as_far f ls)) → IsIn x (flat_map (batch s) ls)) → IsIn x (flat_map (batch s) (l ∷ ls))
      go false j next = absurd j
      go true j next = ⊎_elim (λ a. in_left x (batch s l) (flat_map (batch s) ls) a) (λ b. in_right x (batch s l) (flat_map (batch s) ls) (next b)) (in_cases x (batch s l) (flat_map (batch s) (as_far f ls)) j)

  pub record Ready (p : ℕ) (ms : List Msg) (x : TxnId) : Type 0 where
    pub ordered : IsIn x (order s)
    pub here : participates s x p ≡ true
    pub free : (y : TxnId) → IsIn y (before x (order s)) → (is_finished s ms y ≡ true) ⊎ (clash s p x y ≡ false)

  pub ready_is : (p : ℕ) (ms : List Msg) (x : TxnId) → is_ready s p ms x ≡ true → Ready p ms x
  ready_is p ms x h =
      let a = and_parts (has_id x (taken s ms)) (participates s x p && unblocked s p ms x) h in
      let b = and_parts (participates s x p) (unblocked s p ms x) a.1 in
      record {
        ordered = as_far_in (has_batch ms) x (slots s) (has_in x (taken s ms) a.0);
        here = b.0;
        free = λ y i. ⊎_elim (λ f. inl f) (λ n. inr (not_true (clash s p x y) n)) (or_cases (is_finished s ms y) (not (clash s p x y)) (all_at (λ z. is_finished s ms z || not (clash s p x z)) y (before x (order s)) b.1 i));
      }

  -- each is a partition
  pub part_below : (k : Key) → 1 ≤ s.parts → partition_of k s.parts < s.parts
  part_below k h = go (eqb k.table 0)
    where
      go : (b : Bool) → cond b (k.a % s.parts) ((k.a - 1) % s.parts) < s.parts
      go true = mod-lt k.a (omega arith)
      go false = mod-lt (k.a - 1) (omega arith)

  pub participant_from : (x : TxnId) (q : ℕ) → q < s.parts → participates s x q ≡ true → IsIn q (participants_for s x)
  participant_from x q h e = in_filter (participates s x) q (numbers_below s.parts) (in_below q s.parts h) e

  pub access_there : 1 ≤ s.parts → (x : TxnId) (a : Access) → IsIn a (s.accesses x) → IsIn (partition_of a.key s.parts) (participants_for s x)
  access_there h x a i =
      participant_from x (partition_of a.key s.parts) (part_below a.key h)
      (any_at (λ b. eqb (partition_of b.key s.parts) (partition_of a.key s.parts)) a (s.accesses x) i (same_number (partition_of a.key s.parts)))

  pub participant_is : (x : TxnId) (q : ℕ) → IsIn q (participants_for s x) → (participates s x q ≡ true) × (q < s.parts)
  participant_is x q i = let f = filter_in (participates s x) q (numbers_below s.parts) i in (f.1, below_in q s.parts f.0)
