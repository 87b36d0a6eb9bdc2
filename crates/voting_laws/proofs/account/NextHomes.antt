-- The next home transaction that a node begins is the first of which no attempt is begun.
use Rattle.std.proofs.Common.{◌≡◌, ℕ, zero, suc, ◌+◌, ◌<◌, ◌≤◌, List, [], ◌∷◌, slice_get, Bool, true, false, cond, not, eqb, refl, sym, ap, ◌∙◌, subst, inl, inr, ⊎_elim, arith, Option, Some, None, true≢false}
use Rattle.std.proofs.lemmas.Bool.Decides.{eqb_tells}
use Rattle.deneva_base.specs.declared.numbers.TxnId.{TxnId}
use Rattle.deneva_base.specs.Lists.{IsIn}
use Rattle.server_core.specs.Coordinator.{mail_start, overs}
use Rattle.server_core.specs.NextHome.{first_that, next_home, BeginsNext}
use Rattle.server_core.specs.Proper.{Valid, ids_in}
use Rattle.server_core.specs.RunAccount.{starts_txn, was_said}
use Rattle.server_core.specs.Runs.{heard}
use Rattle.server_core.specs.Setting.{Setting, home, homes, take_first}
use Rattle.server_core.specs.declared.messages.Entry.{Entry}
use Rattle.server_core.specs.declared.messages.Mail.{Mail}
use Rattle.voting_laws.proofs.account.Limited.{begun_true, true_begun, distinct_mine, home_is}
use Rattle.voting_laws.proofs.account.TurnsTold.{said_first}
use Rattle.voting_laws.proofs.fits.Account.{Good}

at_index : (y : TxnId) (k : ℕ) (xs : List TxnId) → slice_get xs k ≡ Some y → IsIn y xs × (1 ≤ ids_in y xs)
at_index y k [] e = absurd (cc)
at_index y zero (x ∷ xs) e = let is : x ≡ y = cc in (inl (sym is), ⊎_elim (λ t. rw t.0 (omega arith)) (λ t. absurd (t.1 (ap (λ (z : TxnId). z.0) is))) (eqb_tells x.0 y.0))
at_index y (suc k) (x ∷ xs) e = let n = at_index y k xs e in (inr n.0, omega (arith, n.1))

-- what stands among the first k and at k stands twice
twice : (y : TxnId) (k : ℕ) (xs : List TxnId) → IsIn y (take_first k xs) → slice_get xs k ≡ Some y → 2 ≤ ids_in y xs
twice y zero xs i e = absurd i
twice y (suc k) [] i e = absurd i
twice y (suc k) (x ∷ xs) i e =
    ⊎_elim
    (λ (is : y ≡ x).
    let n = (at_index y k xs e).1 in
    ⊎_elim (λ t. rw t.0 (omega (arith, n))) (λ t. absurd (t.1 (ap (λ (z : TxnId). z.0) (sym is)))) (eqb_tells x.0 y.0))
    (λ r. omega (arith, twice y k xs r e))
    i

first_at : (t : TxnId → Bool) (k : ℕ) (xs : List TxnId) → ((y : TxnId) → IsIn y (take_first k xs) → t y ≡ true) → ((y : TxnId) → slice_get xs k ≡ Some y → t y ≡ false) → first_that (λ x. not (t x)) xs ≡ slice_get xs k
first_at t k [] early late = refl
first_at t zero (x ∷ xs) early late = ap (λ b. cond (not b) (Some x) (first_that (λ x. not (t x)) xs)) (late x refl)
first_at t (suc k) (x ∷ xs) early late = ap (λ b. cond (not b) (Some x) (first_that (λ x. not (t x)) xs)) (early x (inl refl)) ∙ first_at t k xs (λ y i. early y (inr i)) late

module _ (s : Setting) (v : Valid s) (H : List Entry) (flight : List Mail) (g : Good s H flight) where
  pub begins_next : BeginsNext s H
  begins_next p lt =
      let k : ℕ = s.limit + overs s (heard p H) in
      ap (mail_start p) (sym (first_at (λ x. was_said s H (starts_txn x)) k (homes s p)
      (λ y i. said_first s v H flight g y ∙ begun_true s v H flight g p lt (overs s (heard p H)) (omega arith) y i)
      (λ y e. unsaid y e (was_said s H (starts_txn y)) refl)))
    where
      unsaid : (y : TxnId) → slice_get (homes s p) (s.limit + overs s (heard p H)) ≡ Some y → (b : Bool) → was_said s H (starts_txn y) ≡ b → b ≡ false
      unsaid y e false f = refl
      unsaid y e true f =
          let i = (at_index y (s.limit + overs s (heard p H)) (homes s p) e).0 in
          let j = true_begun s v H flight g p lt y (home_is s v H flight g p lt y i) (sym (said_first s v H flight g y) ∙ f) in
          absurd (omega (arith, twice y (s.limit + overs s (heard p H)) (homes s p) j e, distinct_mine s v H flight g p lt y))
