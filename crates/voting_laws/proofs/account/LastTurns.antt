-- The last attempt of a transaction that has begun ended everywhere exactly where the transaction is decided or given up.
use Rattle.std.proofs.Common.{◌≡◌, ◌⊎◌, ℕ, suc, ◌<◌, List, true, false, eqb, refl, sym, ◌∙◌, subst, inl, inr, ⊎_elim, arith, true≢false}
use Rattle.std.proofs.lemmas.Bool.Decides.{eqb_tells}
use Rattle.deneva_base.specs.declared.numbers.TxnId.{TxnId}
use Rattle.deneva_base.specs.Lists.{IsIn}
use Rattle.server_core.specs.declared.messages.Msg.{Msg}
use Rattle.server_core.specs.declared.messages.Msg.TheVariants.{Start, Commit}
use Rattle.server_core.specs.declared.messages.Mail.{Mail}
use Rattle.server_core.specs.declared.messages.Entry.{Entry}
use Rattle.server_core.specs.Setting.{Setting, home}
use Rattle.server_core.specs.Received.{started_for}
use Rattle.server_core.specs.Voting.{says, opening}
use Rattle.server_core.specs.VotingFits.{Decides}
use Rattle.server_core.specs.Proper.{Valid}
use Rattle.server_core.specs.Runs.{heard}
use Rattle.server_core.specs.Counts.{all_said}
use Rattle.server_core.specs.AttemptEnds.{attempt, all_done, all_undone}
use Rattle.server_core.specs.RunAccount.{is_over}
use Rattle.voting_laws.proofs.account.Words.{has_begun, has_ended}
use Rattle.server_core.proofs.counts.Starts.{started_turn}
use Rattle.server_core.proofs.values.Origins.{aborted_started}
use Rattle.voting_laws.proofs.fits.Lands.{lands, handled_heard}
use Rattle.server_core.proofs.values.Closings.{Closed}
use Rattle.server_core.proofs.values.EarlierTurns.{not_both, undone_before}
use Rattle.voting_laws.proofs.fits.Account.{Good}
use Rattle.voting_laws.proofs.account.Opens.{OverBy, over_by}
use Rattle.voting_laws.proofs.account.Begun.{one_of, started_begun, landed, undone_begun, begun_bound}
use Rattle.voting_laws.proofs.account.Rooms.{over_ends, over_true, true_over, done_over, undone_ends}

module _ (s : Setting) (v : Valid s) (H : List Entry) (flight : List Mail) (g : Good s H flight) (x : TxnId) (turn : ℕ) (begun : has_begun s H flight (attempt x turn) ≡ true) (last : has_begun s H flight (attempt x (suc turn)) ≡ false) where
  abbrev p : ℕ
  p = home s x

  abbrev ms : List Msg
  ms = heard p H

  abbrev again : Mail
  again = record { from = p; to = p; msg = Start (attempt x (suc turn)) }

  -- the next turn was not said
  pub unsaid : IsIn again (all_said (says s) p ms) → ⊥
  unsaid i = true≢false (sym (landed s H flight p (attempt x (suc turn)) refl (⊎_elim (λ f. inl f) (λ h. inr (handled_heard H again h)) (lands (says s) (opening s) H flight g.run p again i))) ∙ last)

  pub ended_over : has_ended s H (attempt x turn) ≡ true → is_over s H x ≡ true
  ended_over e =
      ⊎_elim
      (λ d. over_true s v H flight g x (done_over s v H flight g (attempt x turn) d))
      (λ u. ⊎_elim (λ o. over_true s v H flight g x o.0) (λ a. absurd (unsaid a.2)) (undone_ends s v H flight g (attempt x turn) u))
      (one_of (all_done s H (attempt x turn)) (all_undone s H (attempt x turn)) e)

  -- no later turn was started
  no_later : (t : ℕ) → turn < t → started_for (attempt x t) ms ≡ true → ⊥
  no_later t lt st =
      true≢false (sym (started_begun s H flight (attempt x (suc turn)) (⊎_elim
      (λ (k : (eqb (suc turn) t ≡ true) × (suc turn ≡ t)). subst (λ n. started_for (attempt x n) ms ≡ true) (sym k.1) st)
      (λ k. aborted_started s p (attempt x (suc turn)) ms (g.fit p) (undone_before s p x (suc turn) t ms (g.fit p) (omega arith) (omega (arith, k.1, lt)) st).0)
      (eqb_tells (suc turn) t))) ∙ last)

  -- the attempt that made the transaction over is of this turn
  same_turn : (o : OverBy s p x ms) → o.who.turn ≡ turn
  same_turn o =
      ⊎_elim
      (λ lt. absurd (earlier lt))
      (λ r. ⊎_elim (λ gt. absurd (no_later o.who.turn gt (subst (λ y. started_for y ms ≡ true) (sym as_o) st))) (λ is. is) r)
      (three o.who.turn turn)
    where
      three : (c d : ℕ) → (c < d) ⊎ ((d < c) ⊎ (c ≡ d))
      three c d = grind arith

      as_o : attempt x o.who.turn ≡ o.who
      as_o = λ j. record { txn = sym o.own j; turn = o.who.turn }

      st : started_for o.who ms ≡ true
      st = ⊎_elim (λ d. d.1.0.0.0) (λ a. aborted_started s p o.who ms (g.fit p) a.0) o.kind

      earlier : o.who.turn < turn → ⊥
      earlier lt =
          ⊎_elim
          (λ d. not_both s ms (attempt x o.who.turn) d.0 (undone_begun s v H flight g x o.who.turn turn (started_turn s p o.who ms (g.fit p) st) lt begun).0 (subst (λ y. Decides s ms y (Commit y d.0)) (sym as_o) d.1))
          (λ a. omega (arith, a.1, lt, begun_bound s v H flight g x turn begun))
          o.kind

  pub over_ended : is_over s H x ≡ true → has_ended s H (attempt x turn) ≡ true
  over_ended e =
      let o = over_by s p x ms (g.fit p) (true_over s v H flight g x e) in
      let is : o.who ≡ attempt x turn = λ j. record { txn = o.own j; turn = same_turn o j } in
      subst (λ y. has_ended s H y ≡ true) is (over_ends s v H flight g x o)

  -- and it is the attempt that closed
  pub over_closed : is_over s H x ≡ true → Closed s p (attempt x turn) ms
  over_closed e =
      let o = over_by s p x ms (g.fit p) (true_over s v H flight g x e) in
      let is : o.who ≡ attempt x turn = λ j. record { txn = o.own j; turn = same_turn o j } in
      subst (λ y. Closed s p y ms) is o.closed
