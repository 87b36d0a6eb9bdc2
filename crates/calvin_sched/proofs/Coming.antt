-- The rows that came for a transaction, by the messages.
use Rattle.std.proofs.Common.{◌≡◌, ◌≢◌, ℕ, List, [], ◌∷◌, ◌++◌, map, Bool, true, false, cond, ◌&&◌, ◌||◌, eqb, refl, sym, ap, ◌∙◌, subst, ⊎_elim, true≢false}
use Rattle.std.specs.List.{list_all}
use Rattle.std.proofs.lemmas.List.Folds.{list_any-append}
use Rattle.std.proofs.lemmas.Bool.Decides.{eqb_tells}
use Rattle.deneva_base.specs.declared.keys.Access.{Access}
use Rattle.deneva_base.specs.declared.numbers.TxnId.{TxnId}
use Rattle.deneva_base.specs.declared.rows.Keyed.{Keyed}
use Rattle.deneva_base.specs.Keys.{id_eq}
use Rattle.deneva_base.specs.Partitions.{partition_of}
use Rattle.deneva_base.specs.Rows.{row_at}
use Rattle.txn_program.specs.Transactions.{reading}
use Rattle.server_core.specs.CalvinFits.{Suits, AllFit}
use Rattle.server_core.specs.CalvinScheduler.{has_rows, rows_from, is_finished, collected}
use Rattle.server_core.specs.Setting.{Setting, participants_for}
use Rattle.server_core.specs.declared.messages.Msg.{Msg}
use Rattle.server_core.specs.declared.messages.Msg.TheVariants.{Tick, Rows}
use Rattle.server_core.proofs.lists.ListTests.{all_at, is_or_not, not_both, id_self, id_tells}
use Rattle.calvin_sched.specs.Arrivals.{arrivals_at, has_come, rows_of_part, Sets}
use Rattle.calvin_sched.specs.Reading.{rows_with, is_complete, collected_from}
use Rattle.calvin_sched.specs.Standing.{came_for, HasArrivals}
use Rattle.calvin_sched.specs.declared.arrivals.Arrival.{Arrival}
use Rattle.calvin_sched.specs.declared.arrivals.Arrivals.{Arrivals}

eqb_turned : (a b : ℕ) → eqb a b ≡ eqb b a
eqb_turned a b =
    ⊎_elim
    (λ (t : (eqb a b ≡ true) × (a ≡ b)). t.0 ∙ sym (subst (λ n. eqb n a ≡ true) t.1 (subst (λ n. eqb a n ≡ true) (sym t.1) t.0)))
    (λ (t : (eqb a b ≡ false) × (a ≢ b)). t.0 ∙ sym (⊎_elim (λ (u : (eqb b a ≡ true) × (b ≡ a)). absurd (t.1 (sym u.1))) (λ (u : (eqb b a ≡ false) × (b ≢ a)). u.0) (eqb_tells b a)))
    (eqb_tells a b)

all_same : {A : Type 0} (f g : A → Bool) (xs : List A) → ((x : A) → f x ≡ g x) → list_all f xs ≡ list_all g xs
all_same f g [] h = refl
all_same f g (x ∷ xs) h = ap (λ b. b && list_all f xs) (h x) ∙ ap (λ b. g x && b) (all_same f g xs h)

turned : (a b : Bool) → (a || (b || false)) ≡ (b || a)
turned true true = refl
turned true false = refl
turned false true = refl
turned false false = refl

-- those of a participant came where a message says so
pub has_come_rows : (x : TxnId) (r : ℕ) (ms : List Msg) → has_come (came_for x ms) r ≡ has_rows ms x r
has_come_rows x r [] = refl
has_come_rows x r (Rows y q rows ∷ ms) = go (id_eq y x) (has_come_rows x r ms)
  where
    go : (b : Bool) → has_come (came_for x ms) r ≡ has_rows ms x r → has_come (cond b (came_for x ms ++ record { part = q; rows = rows } ∷ []) (came_for x ms)) r ≡ ((b && eqb q r) || has_rows ms x r)
    go true next = list_any-append (λ (a : Arrival). eqb a.part r) (came_for x ms) (record { part = q; rows = rows } ∷ []) ∙ turned (has_come (came_for x ms) r) (eqb q r) ∙ ap (λ b. eqb q r || b) next
    go false next = next
has_come_rows x r (m ∷ ms) = has_come_rows x r ms

none_come : (as' : List Arrival) (r : ℕ) → has_come as' r ≡ false → rows_of_part as' r ≡ []
none_come [] r h = refl
none_come (a ∷ as') r h = go (eqb a.part r) h (none_come as' r)
  where
    go : (b : Bool) → (b || has_come as' r) ≡ false → (has_come as' r ≡ false → rows_of_part as' r ≡ []) → cond b a.rows (rows_of_part as' r) ≡ []
    go true e next = absurd (true≢false e)
    go false e next = next e

-- one that comes last is seen where none of its participant came
come_last : (as' : List Arrival) (a : Arrival) (r : ℕ) → (eqb a.part r ≡ true → has_come as' r ≡ false) → rows_of_part (as' ++ a ∷ []) r ≡ cond (eqb a.part r) a.rows (rows_of_part as' r)
come_last [] a r h = refl
come_last (b ∷ as') a r h = go (eqb b.part r) (eqb a.part r) h (come_last as' a r)
  where
    go : (c d : Bool) → (d ≡ true → (c || has_come as' r) ≡ false) → ((d ≡ true → has_come as' r ≡ false) → rows_of_part (as' ++ a ∷ []) r ≡ cond d a.rows (rows_of_part as' r)) → cond c b.rows (rows_of_part (as' ++ a ∷ []) r) ≡ cond d a.rows (cond c b.rows (rows_of_part as' r))
    go true true e next = absurd (true≢false (e refl))
    go true false e next = refl
    go false d e next = next e

module _ (s : Setting) (p : ℕ) where
  -- the rows of a participant, as they came
  pub rows_of_came : (x : TxnId) (r : ℕ) (ms : List Msg) → AllFit s p ms → rows_of_part (came_for x ms) r ≡ rows_from ms x r
  rows_of_came x r [] fit = refl
  rows_of_came x r (Rows y q rows ∷ ms) fit = go (id_eq y x) refl (rows_of_came x r ms fit.1)
    where
      new : has_rows ms y q ≡ false
      new = fit.0.1.4

      go : (b : Bool) → id_eq y x ≡ b → rows_of_part (came_for x ms) r ≡ rows_from ms x r → rows_of_part (cond b (came_for x ms ++ record { part = q; rows = rows } ∷ []) (came_for x ms)) r ≡ cond (b && eqb q r) rows (rows_from ms x r)
      go true e next =
          come_last (came_for x ms) (record { part = q; rows = rows }) r
          (λ t.
          let is : y ≡ x = ⊎_elim (λ u. u.1) (λ u. absurd (not_both (id_eq y x) e u.0)) (id_tells y x) in
          let there : q ≡ r = ⊎_elim (λ u. u.1) (λ u. absurd (not_both (eqb q r) t u.0)) (eqb_tells q r) in
          has_come_rows x r ms ∙ subst (λ z. has_rows ms z r ≡ false) is (subst (λ n. has_rows ms y n ≡ false) there new))
          ∙ ap (λ l. cond (eqb q r) rows l) next
      go false e next = next
  rows_of_came x r (Tick e ∷ ms) fit = rows_of_came x r ms fit.1
  rows_of_came x r (m ∷ ms) fit = rows_of_came x r ms fit.1

  module _ (ms : List Msg) (fit : AllFit s p ms) (x : TxnId) (q : ℕ) (rows : List Keyed) (suits : Suits s p q (Rows x q rows) ms) where
    -- it is not finished before: these rows are missing
    pub unfinished : is_finished s ms x ≡ false
    unfinished = ⊎_elim (λ t. absurd (not_both (has_rows ms x q) (all_at (has_rows ms x) q (participants_for s x) t suits.2) suits.4)) (λ f. f) (is_or_not (is_finished s ms x))

    module _ (arrivals : Arrivals) (has : HasArrivals s arrivals ms) where
      pub kept : arrivals_at arrivals x ≡ came_for x ms
      kept = has x suits.1 ∙ ap (λ b. cond b [] (came_for x ms)) unfinished

      -- all is there where the transaction is finished
      pub complete_is : is_complete s (arrivals_at arrivals x) q x ≡ is_finished s (Rows x q rows ∷ ms) x
      complete_is =
          ap (λ l. is_complete s l q x) kept
          ∙ all_same (λ r. eqb r q || has_come (came_for x ms) r) (λ r. (id_eq x x && eqb q r) || has_rows ms x r) (participants_for s x)
          (λ r. ap (λ b. eqb r q || b) (has_come_rows x r ms) ∙ ap (λ b. b || has_rows ms x r) (eqb_turned r q) ∙ sym (ap (λ b. (b && eqb q r) || has_rows ms x r) (id_self x)))

      -- and what is collected is as it came
      pub collected_is : collected_from s (rows_with (arrivals_at arrivals x) q rows) x ≡ collected s (Rows x q rows ∷ ms) x
      collected_is = go (reading (s.accesses x))
        where
          same : (r : ℕ) → rows_with (arrivals_at arrivals x) q rows r ≡ rows_from (Rows x q rows ∷ ms) x r
          same r =
              ap (λ l. cond (eqb r q) rows (rows_of_part l r)) kept
              ∙ ap (λ l. cond (eqb r q) rows l) (rows_of_came x r ms fit)
              ∙ ap (λ b. cond b rows (rows_from ms x r)) (eqb_turned r q)
              ∙ sym (ap (λ b. cond (b && eqb q r) rows (rows_from ms x r)) (id_self x))

          go : (as' : List Access) → map {B = Keyed} (λ (a : Access). record { key = a.key; row = row_at (rows_with (arrivals_at arrivals x) q rows (partition_of a.key s.parts)) a.key }) as' ≡ map {B = Keyed} (λ (a : Access). record { key = a.key; row = row_at (rows_from (Rows x q rows ∷ ms) x (partition_of a.key s.parts)) a.key }) as'
          go [] = refl
          go (a ∷ as') = ap (λ l. record { key = a.key; row = row_at l a.key } ∷ map (λ (c : Access). record { key = c.key; row = row_at (rows_with (arrivals_at arrivals x) q rows (partition_of c.key s.parts)) c.key }) as') (same (partition_of a.key s.parts)) ∙ ap (λ l. record { key = a.key; row = row_at (rows_from (Rows x q rows ∷ ms) x (partition_of a.key s.parts)) a.key } ∷ l) (go as')

      other_done : (y : TxnId) → id_eq x y ≡ false → is_finished s (Rows x q rows ∷ ms) y ≡ is_finished s ms y
      other_done y e = ap (λ b. list_all (λ r. (b && eqb q r) || has_rows ms y r) (participants_for s y)) e

      other_came : (y : TxnId) → id_eq x y ≡ false → came_for y (Rows x q rows ∷ ms) ≡ came_for y ms
      other_came y e = ap (λ b. cond b (came_for y ms ++ record { part = q; rows = rows } ∷ []) (came_for y ms)) e

      set_as : (new : Arrivals) (list : List Arrival) → Sets arrivals x list new → list ≡ cond (is_finished s (Rows x q rows ∷ ms) x) [] (came_for x (Rows x q rows ∷ ms)) → HasArrivals s new (Rows x q rows ∷ ms)
      set_as new list sets is y i =
          sets y
          ∙ ⊎_elim
          (λ (t : (id_eq x y ≡ true) × (x ≡ y)). ap (λ b. cond b list (arrivals_at arrivals y)) t.0 ∙ subst (λ z. list ≡ cond (is_finished s (Rows x q rows ∷ ms) z) [] (came_for z (Rows x q rows ∷ ms))) t.1 is)
          (λ (t : (id_eq x y ≡ false) × (x ≢ y)).
          ap (λ b. cond b list (arrivals_at arrivals y)) t.0 ∙ has y i ∙ ap (λ b. cond b [] (came_for y ms)) (sym (other_done y t.0)) ∙ ap (λ l. cond (is_finished s (Rows x q rows ∷ ms) y) [] l) (sym (other_came y t.0)))
          (id_tells x y)

      -- what came is forgotten where it is finished
      pub arrivals_forgotten : (new : Arrivals) → Sets arrivals x [] new → is_finished s (Rows x q rows ∷ ms) x ≡ true → HasArrivals s new (Rows x q rows ∷ ms)
      arrivals_forgotten new sets done = set_as new [] sets (sym (ap (λ b. cond b [] (came_for x (Rows x q rows ∷ ms))) done))

      -- and else these rows are kept
      pub arrivals_added : (new : Arrivals) → Sets arrivals x (arrivals_at arrivals x ++ record { part = q; rows = rows } ∷ []) new → is_finished s (Rows x q rows ∷ ms) x ≡ false → HasArrivals s new (Rows x q rows ∷ ms)
      arrivals_added new sets un =
          set_as new (arrivals_at arrivals x ++ record { part = q; rows = rows } ∷ []) sets
          (ap (λ l. l ++ record { part = q; rows = rows } ∷ []) kept
          ∙ sym (ap (λ b. cond b [] (came_for x (Rows x q rows ∷ ms))) un ∙ ap (λ b. cond b (came_for x ms ++ record { part = q; rows = rows } ∷ []) (came_for x ms)) (id_self x)))
