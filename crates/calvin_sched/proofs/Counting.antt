-- The rows of all participants of a transaction came where as many came as it has participants.
use Rattle.std.proofs.Common.{◌≡◌, ◌≢◌, ℕ, zero, suc, ◌+◌, ◌<◌, ◌≤◌, List, [], ◌∷◌, ◌++◌, length, filter, Bool, true, false, cond, ◌&&◌, ◌||◌, eqb, ◌==◌, refl, sym, ap, ◌∙◌, subst, ⊎_elim, arith, length-append}
use Rattle.std.specs.List.{list_all}
use Rattle.std.proofs.lemmas.Bool.Decides.{eqb_tells, nat_tests}
use Rattle.std.proofs.lemmas.List.Elements.{filter-append}
use Rattle.deneva_base.specs.declared.numbers.TxnId.{TxnId}
use Rattle.deneva_base.specs.declared.rows.Keyed.{Keyed}
use Rattle.deneva_base.specs.Keys.{id_eq}
use Rattle.deneva_base.specs.Lists.{IsIn}
use Rattle.txn_program.specs.Transactions.{numbers_below}
use Rattle.server_core.specs.CalvinFits.{Suits, AllFit}
use Rattle.server_core.specs.CalvinScheduler.{has_rows, participates}
use Rattle.server_core.specs.Setting.{Setting, participants_for}
use Rattle.server_core.specs.declared.messages.Msg.{Msg}
use Rattle.server_core.specs.declared.messages.Msg.TheVariants.{Tick, Rows}
use Rattle.server_core.proofs.lists.ListTests.{not_both, id_self, id_tells}
use Rattle.calvin_laws.proofs.order.Nodes.{participant_is}
use Rattle.calvin_seq.proofs.Counts.{few_pass}
use Rattle.calvin_sched.specs.Arrivals.{arrivals_at}
use Rattle.calvin_sched.specs.Reading.{is_complete}
use Rattle.calvin_sched.specs.Standing.{came_for, HasArrivals}
use Rattle.calvin_sched.specs.declared.arrivals.Arrivals.{Arrivals}
use Rattle.calvin_sched.proofs.Coming.{kept, complete_is}

-- one more on both sides
later : (m n : ℕ) → (m == n) ≡ (suc m == suc n)
later m n = grind (arith, nat_tests)

-- all pass where as many pass as there are
pub all_counted : {A : Type 0} (g : A → Bool) (xs : List A) → list_all g xs ≡ (length (filter g xs) == length xs)
all_counted g [] = refl
all_counted g (x ∷ xs) = go (g x) (few_pass g xs) (all_counted g xs)
  where
    go : (b : Bool) → length (filter g xs) ≤ length xs → list_all g xs ≡ (length (filter g xs) == length xs) → (b && list_all g xs) ≡ (length (cond b (x ∷ filter g xs) (filter g xs)) == suc (length xs))
    go true few same = same ∙ later (length (filter g xs)) (length xs)
    go false few same = grind (arith, nat_tests, few)

-- with one number more that passes
one_more : (f : ℕ → Bool) (r : ℕ) (xs : List ℕ) → f r ≡ false → length (filter (λ z. eqb r z || f z) xs) ≡ length (filter (eqb r) xs) + length (filter f xs)
one_more f r [] none = refl
one_more f r (x ∷ xs) none =
    ⊎_elim
    (λ (t : (eqb r x ≡ true) × (r ≡ x)). let out : f x ≡ false = subst (λ z. f z ≡ false) t.1 none in rw (t.0, out) (omega (arith, one_more f r xs none)))
    (λ (t : (eqb r x ≡ false) × (r ≢ x)). rw t.0 (go (f x) (one_more f r xs none)))
    (eqb_tells r x)
  where
    go : (b : Bool) → length (filter (λ z. eqb r z || f z) xs) ≡ length (filter (eqb r) xs) + length (filter f xs) → length (cond b (x ∷ filter (λ z. eqb r z || f z) xs) (filter (λ z. eqb r z || f z) xs)) ≡ length (filter (eqb r) xs) + length (cond b (x ∷ filter f xs) (filter f xs))
    go true same = omega (arith, same)
    go false same = same

-- each number below n is there once
below_once : (g : ℕ → Bool) (r n : ℕ) → g r ≡ true → (r < n → length (filter (eqb r) (filter g (numbers_below n))) ≡ 1) × (n ≤ r → length (filter (eqb r) (filter g (numbers_below n))) ≡ 0)
below_once g r zero passes = ((λ less. absurd (omega (arith, less))), (λ h. refl))
below_once g r (suc n) passes =
    let before : List ℕ = filter g (numbers_below n) in
    let ih = below_once g r n passes in
    let split : length (filter (eqb r) (filter g (numbers_below n ++ n ∷ []))) ≡ length (filter (eqb r) before) + length (filter (eqb r) (filter g (n ∷ []))) =
    ap (λ l. length (filter (eqb r) l)) (filter-append g (numbers_below n) (n ∷ []))
    ∙ ap length (filter-append (eqb r) before (filter g (n ∷ [])))
    ∙ length-append (filter (eqb r) before) (filter (eqb r) (filter g (n ∷ []))) in
    ⊎_elim
    (λ (t : (eqb r n ≡ true) × (r ≡ n)).
    let last : length (filter (eqb r) (filter g (n ∷ []))) ≡ 1 = rw (subst (λ z. g z ≡ true) t.1 passes) (rw t.0 refl) in
    let none = ih.1 (omega (arith, t.1)) in
    ((λ less. omega (arith, split, last, none)), (λ h. absurd (omega (arith, h, t.1)))))
    (λ (t : (eqb r n ≡ false) × (r ≢ n)).
    let last : length (filter (eqb r) (filter g (n ∷ []))) ≡ 0 = go t.0 (g n) in
    ((λ less. let low : r < n = grind (arith, less, t.1) in omega (arith, split, last, ih.0 low)), (λ h. omega (arith, split, last, ih.1 (omega (arith, h))))))
    (eqb_tells r n)
  where
    go : eqb r n ≡ false → (b : Bool) → length (filter (eqb r) (cond b (n ∷ []) [])) ≡ 0
    go e true = rw e refl
    go e false = refl

module _ (s : Setting) (p : ℕ) where
  -- each participant is there once
  part_once : (x : TxnId) (r : ℕ) → IsIn r (participants_for s x) → length (filter (eqb r) (participants_for s x)) ≡ 1
  part_once x r i = let is = participant_is s x r i in (below_once (participates s x) r s.parts is.0).0 is.1

  -- as many came as participants whose rows did
  pub came_counted : (x : TxnId) (ms : List Msg) → AllFit s p ms → length (came_for x ms) ≡ length (filter (has_rows ms x) (participants_for s x))
  came_counted x [] fit = none (participants_for s x)
    where
      none : (xs : List ℕ) → 0 ≡ length (filter (λ z. false) xs)
      none [] = refl
      none (z ∷ xs) = none xs
  came_counted x (Rows y q rows ∷ ms) fit = go (id_eq y x) refl (came_counted x ms fit.1)
    where
      go : (b : Bool) → id_eq y x ≡ b → length (came_for x ms) ≡ length (filter (has_rows ms x) (participants_for s x)) → length (cond b (came_for x ms ++ record { part = q; rows = rows } ∷ []) (came_for x ms)) ≡ length (filter (λ z. (b && eqb q z) || has_rows ms x z) (participants_for s x))
      go true e before =
          let is : y ≡ x = ⊎_elim (λ u. u.1) (λ u. absurd (not_both (id_eq y x) e u.0)) (id_tells y x) in
          let new : has_rows ms x q ≡ false = subst (λ z. has_rows ms z q ≡ false) is fit.0.1.4 in
          let there : IsIn q (participants_for s x) = subst (λ z. IsIn q (participants_for s z)) is (subst (λ n. IsIn n (participants_for s y)) (sym fit.0.1.0) fit.0.1.2) in
          let more = one_more (has_rows ms x) q (participants_for s x) new in
          omega (arith, before, more, part_once x q there, length-append (came_for x ms) (record { part = q; rows = rows } ∷ []))
      go false e before = before
  came_counted x (Tick e ∷ ms) fit = came_counted x ms fit.1
  came_counted x (m ∷ ms) fit = came_counted x ms fit.1

  -- the last rows that fit make all complete where they are as many as the participants
  pub complete_counted : (ms : List Msg) (fit : AllFit s p ms) (x : TxnId) (q : ℕ) (rows : List Keyed) (suits : Suits s p q (Rows x q rows) ms) (arrivals : Arrivals) → HasArrivals s arrivals ms → is_complete s (arrivals_at arrivals x) q x ≡ (length (arrivals_at arrivals x) + 1 == length (participants_for s x))
  complete_counted ms fit x q rows suits arrivals has =
      let with_it : List Msg = Rows x q rows ∷ ms in
      let last : length (came_for x with_it) ≡ length (arrivals_at arrivals x) + 1 =
      ap (λ b. length (cond b (came_for x ms ++ record { part = q; rows = rows } ∷ []) (came_for x ms))) (id_self x)
      ∙ length-append (came_for x ms) (record { part = q; rows = rows } ∷ [])
      ∙ ap (λ l. length l + 1) (sym (kept s p ms fit x q rows suits arrivals has)) in
      complete_is s p ms fit x q rows suits arrivals has
      ∙ all_counted (has_rows with_it x) (participants_for s x)
      ∙ ap (λ n. n == length (participants_for s x)) (sym (came_counted x with_it ((q, suits), fit)) ∙ last)
