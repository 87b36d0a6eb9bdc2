-- A vote, by whether it is the last.
use Rattle.std.proofs.Common.{◌≡◌, ℕ, List, [], ◌∷◌, ◌++◌, Bool, true, false, cond, not, ◌&&◌, eqb, refl, sym, ap, ◌∙◌, true≢false, append-nil}
use Rattle.std.specs.List.{list_all}
use Rattle.deneva_base.specs.declared.numbers.Attempt.{Attempt}
use Rattle.server_core.specs.declared.messages.Mail.{Mail}
use Rattle.server_core.specs.declared.ballots.Ballot.{Ballot}
use Rattle.server_core.specs.Setting.{Setting}
use Rattle.coord.specs.States.{State, voted, voted_as, voted_mails, verdict_mails, decision_mails, participants_of, with_ballot, without}

pub last_left : (part : ℕ) (left : List ℕ) → list_all (λ q. eqb q part) left ≡ true → without part left ≡ []
last_left part [] e = refl
last_left part (q ∷ left) e = go (eqb q part) e (last_left part left)
  where
    go : (b : Bool) → (b && list_all (λ z. eqb z part) left) ≡ true → (list_all (λ z. eqb z part) left ≡ true → without part left ≡ []) → cond (not b) (q ∷ without part left) (without part left) ≡ []
    go true e k = k e
    go false e k = absurd (true≢false (sym e))

pub more_left : (part : ℕ) (left : List ℕ) → list_all (λ q. eqb q part) left ≡ false → (x : ℕ) × (xs : List ℕ) × (without part left ≡ x ∷ xs)
more_left part [] e = absurd (true≢false e)
more_left part (q ∷ left) e = go (eqb q part) e (more_left part left)
  where
    go : (b : Bool) → (b && list_all (λ z. eqb z part) left) ≡ false → (list_all (λ z. eqb z part) left ≡ false → (x : ℕ) × (xs : List ℕ) × (without part left ≡ x ∷ xs)) → (x : ℕ) × (xs : List ℕ) × (cond (not b) (q ∷ without part left) (without part left) ≡ x ∷ xs)
    go true e k = k e
    go false e k = (q, without part left, refl)

module _ (s : Setting) (b : Ballot) (t : State) where
  pub voted_on : list_all (λ q. eqb q b.part) t.left ≡ false → with_ballot b (without b.part t.left) t ≡ voted s b t
  voted_on e = let m = more_left b.part t.left e in ap (λ l. with_ballot b l t) m.2 ∙ sym (ap (voted_as s b t) m.2)

  pub voted_last : list_all (λ q. eqb q b.part) t.left ≡ true → with_ballot b (participants_of s t) t ≡ voted s b t
  voted_last e = sym (ap (voted_as s b t) (last_left b.part t.left e))

  pub quiet_on : (p : ℕ) (who : Attempt) (mails : List Mail) → list_all (λ q. eqb q b.part) t.left ≡ false → mails ≡ mails ++ voted_mails s p who b t
  quiet_on p who mails e = let m = more_left b.part t.left e in sym (append-nil mails) ∙ ap (λ l. mails ++ verdict_mails s p who b t l) (sym m.2)

  pub told_last : (p : ℕ) (who : Attempt) → list_all (λ q. eqb q b.part) t.left ≡ true → decision_mails s p who (with_ballot b t.left t) ≡ voted_mails s p who b t
  told_last p who e = sym (ap (verdict_mails s p who b t) (last_left b.part t.left e))

abbrev pub with_ballots : List Ballot → List ℕ → State → State
with_ballots bs left t = record { turn = t.turn; stamp = t.stamp; accesses = t.accesses; granted = t.granted; rows = t.rows; bound = t.bound; ballots = bs; left = left }
