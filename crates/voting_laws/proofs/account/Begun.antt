-- An attempt that has begun, and what is known of the earlier turns.
use Rattle.std.proofs.Common.{◌≡◌, ◌⊎◌, ℕ, zero, suc, ◌<◌, ◌≤◌, List, Bool, true, false, ◌||◌, eqb, refl, sym, ap, subst, inl, inr, ⊎_elim, arith, true≢false}
use Rattle.std.specs.List.{list_any}
use Rattle.std.proofs.lemmas.Bool.Decides.{eqb_tells}
use Rattle.deneva_base.specs.declared.numbers.TxnId.{TxnId}
use Rattle.deneva_base.specs.declared.numbers.Attempt.{Attempt}
use Rattle.deneva_base.specs.Lists.{IsIn}
use Rattle.deneva_base.specs.Keys.{attempt_eq}
use Rattle.deneva_base.proofs.Membership.{any_at, any_found, attempt_tells, attempt_decides}
use Rattle.server_core.specs.declared.messages.Msg.{Msg}
use Rattle.server_core.specs.declared.messages.Msg.TheVariants.{Start, Ask}
use Rattle.server_core.specs.declared.messages.Mail.{Mail}
use Rattle.server_core.specs.declared.messages.Entry.{Entry}
use Rattle.server_core.specs.Setting.{Setting, home}
use Rattle.server_core.specs.Received.{started_for}
use Rattle.server_core.specs.VotingFits.{Suits, AllUndone}
use Rattle.server_core.specs.Proper.{Valid}
use Rattle.server_core.specs.Runs.{heard}
use Rattle.server_core.specs.AttemptEnds.{attempt}
use Rattle.server_core.specs.RunAccount.{starts_of}
use Rattle.voting_laws.proofs.account.Words.{has_begun}
use Rattle.server_core.proofs.counts.Starts.{turn_bound}
use Rattle.server_core.proofs.values.Origins.{aborted_started}
use Rattle.server_core.proofs.values.EarlierTurns.{undone_before}
use Rattle.voting_laws.proofs.fits.Account.{Good, start_fits}
use Rattle.voting_laws.proofs.account.Quits.{start_heard}

or_left : (a b : Bool) → a ≡ true → (a || b) ≡ true
or_left true b e = refl
or_left false b e = absurd (true≢false (sym e))

or_right : (a : Bool) {b : Bool} → b ≡ true → (a || b) ≡ true
or_right true e = refl
or_right false e = e

pub one_of : (a b : Bool) → (a || b) ≡ true → (a ≡ true) ⊎ (b ≡ true)
one_of true b e = inl refl
one_of false b e = inr e

module _ (s : Setting) (H : List Entry) (flight : List Mail) where
  pub started_begun : (who : Attempt) → started_for who (heard (home s who.txn) H) ≡ true → has_begun s H flight who ≡ true
  started_begun who st = or_left (started_for who (heard (home s who.txn) H)) (list_any (λ (m : Mail). starts_of who m.msg) flight) st

  -- its Start landed
  pub landed : (p : ℕ) (who : Attempt) → home s who.txn ≡ p → IsIn (record { from = p; to = p; msg = Start who }) flight ⊎ IsIn (Start who) (heard p H) → has_begun s H flight who ≡ true
  landed p who at h =
      ⊎_elim
      (λ f. or_right (started_for who (heard (home s who.txn) H)) (any_at (λ (m : Mail). starts_of who m.msg) (record { from = p; to = p; msg = Start who }) flight f self))
      (λ i. started_begun who (subst (λ q. started_for who (heard q H) ≡ true) (sym at) (start_heard who (heard p H) i)))
      h
    where
      self : attempt_eq who who ≡ true
      self = ⊎_elim (λ t. t.0) (λ f. absurd (f.1 refl)) (attempt_tells who who)

  -- it was started, or its Start is in flight
  pub begun_cases : (who : Attempt) → has_begun s H flight who ≡ true → (started_for who (heard (home s who.txn) H) ≡ true) ⊎ ((m : Mail) × IsIn m flight × (m.msg ≡ Start who))
  begun_cases who e =
      ⊎_elim
      (λ st. inl st)
      (λ b. let m = any_found (λ (m : Mail). starts_of who m.msg) flight b in inr (m.0, m.1, is_it m.0.msg m.2))
      (one_of (started_for who (heard (home s who.txn) H)) (list_any (λ (m : Mail). starts_of who m.msg) flight) e)
    where
      is_it : (m : Msg) → starts_of who m ≡ true → m ≡ Start who
      is_it (Start x) e = ap Start ((attempt_decides x who).0 e)
      is_it (Ask x st q m) e = absurd (true≢false (sym e))
      is_it m e = absurd (true≢false (sym e))

module _ (s : Setting) (v : Valid s) (H : List Entry) (flight : List Mail) (g : Good s H flight) (x : TxnId) where
  abbrev ms : List Msg
  ms = heard (home s x) H

  fits_home : (turn : ℕ) (m : Mail) → IsIn m flight → m.msg ≡ Start (attempt x turn) → Suits s (home s x) m.from (Start (attempt x turn)) ms
  fits_home turn m i e = let f = start_fits s v H flight g (attempt x turn) m i e in subst (λ q. Suits s q m.from (Start (attempt x turn)) (heard q H)) f.1 f

  -- a turn begins after all earlier ones were undone
  pub undone_begun : (t u : ℕ) → 1 ≤ t → t < u → has_begun s H flight (attempt x u) ≡ true → AllUndone s ms (attempt x t)
  undone_begun t zero low lt b = absurd (omega (arith, lt))
  undone_begun t (suc u) low lt b =
      ⊎_elim
      (λ st. undone_before s (home s x) x t (suc u) ms (g.fit (home s x)) low lt st)
      (λ m. ⊎_elim
      (λ a. absurd (omega (arith, a.0, low, lt)))
      (λ a. by_last a.2)
      (fits_home (suc u) m.0 m.1 m.2).3)
      (begun_cases s H flight (attempt x (suc u)) b)
    where
      by_last : AllUndone s ms (attempt x u) → AllUndone s ms (attempt x t)
      by_last a =
          ⊎_elim
          (λ (k : (eqb t u ≡ true) × (t ≡ u)). subst (λ n. AllUndone s ms (attempt x n)) (sym k.1) a)
          (λ k. undone_before s (home s x) x t u ms (g.fit (home s x)) low (omega (arith, k.1, lt)) (aborted_started s (home s x) (attempt x u) ms (g.fit (home s x)) a.0))
          (eqb_tells t u)

  pub begun_bound : (turn : ℕ) → has_begun s H flight (attempt x turn) ≡ true → turn ≤ s.attempts
  begun_bound turn b =
      ⊎_elim
      (λ st. turn_bound s (home s x) (attempt x turn) ms v.attempts (g.fit (home s x)) st)
      (λ m. ⊎_elim (λ a. omega (arith, a.0, v.attempts)) (λ a. a.1) (fits_home turn m.0 m.1 m.2).3)
      (begun_cases s H flight (attempt x turn) b)
