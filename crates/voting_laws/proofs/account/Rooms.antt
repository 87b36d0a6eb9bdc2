-- The open transactions of a node, counted.
use Rattle.std.proofs.Common.{◌≡◌, ◌⊎◌, ℕ, ◌≤◌, List, [], ◌∷◌, Bool, true, false, cond, ◌&&◌, ◌||◌, refl, sym, ap, subst, inl, inr, ⊎_elim, arith, Option, Some, None, true≢false}
use Rattle.deneva_base.specs.declared.numbers.TxnId.{TxnId}
use Rattle.deneva_base.specs.declared.numbers.Attempt.{Attempt}
use Rattle.deneva_base.specs.declared.numbers.Number.{Number}
use Rattle.deneva_base.specs.Lists.{IsIn}
use Rattle.deneva_base.specs.Keys.{attempt_eq}
use Rattle.deneva_base.proofs.Membership.{and_parts, and_true, attempt_tells}
use Rattle.server_core.specs.declared.messages.Msg.{Msg}
use Rattle.server_core.specs.declared.messages.Msg.TheVariants.{Start, Commit, Done, Undone}
use Rattle.server_core.specs.declared.messages.Mail.{Mail}
use Rattle.server_core.specs.declared.messages.Entry.{Entry}
use Rattle.server_core.specs.Setting.{Setting, home, participants}
use Rattle.server_core.specs.Received.{closes_for, started_for, all_closed}
use Rattle.server_core.specs.Coordinator.{told, asked_partitions}
use Rattle.server_core.specs.VotingFits.{AllFit, IsAborted, Decides}
use Rattle.server_core.specs.Proper.{Valid}
use Rattle.server_core.specs.Runs.{heard}
use Rattle.server_core.specs.AttemptEnds.{attempt, at_home, dones_for, undones_for, all_done, all_undone, done_turn}
use Rattle.server_core.specs.RunAccount.{some_of, is_over}
use Rattle.voting_laws.proofs.account.Words.{has_ended}
use Rattle.server_core.proofs.counts.Starts.{started_turn, turn_bound}
use Rattle.server_core.proofs.values.Decisions.{aborted_more, decides_more}
use Rattle.server_core.proofs.values.Origins.{started_ids, aborted_started}
use Rattle.server_core.proofs.values.EarlierTurns.{not_both}
use Rattle.voting_laws.proofs.fits.Account.{Good}
use Rattle.voting_laws.proofs.fits.Every.{decided}
use Rattle.server_core.proofs.values.Closed.{closed_there}
use Rattle.voting_laws.proofs.serial.Lines.{all_there, done_turn_is, done_turn_some, done_commit}
use Rattle.voting_laws.proofs.serial.SerialOutcomes.{told_some}
use Rattle.server_core.proofs.values.Closings.{over_ids, Ends, closed_ends}
use Rattle.voting_laws.proofs.account.Quits.{dones_close, undones_close}
use Rattle.voting_laws.proofs.account.Opens.{OverBy, over_by}

-- a close is a Done, or the attempt was aborted; and an Undone, or it was committed
closes_done : (s : Setting) (p : ℕ) (who : Attempt) (ms : List Msg) → AllFit s p ms → (q : ℕ) → IsIn q (closes_for who ms) → IsIn q (dones_for who ms) ⊎ IsAborted s ms who
closes_done s p who [] fit q i = inl i
closes_done s p who (Done x part ∷ ms) fit q i = go (attempt_eq x who) i (λ j. closes_done s p who ms fit.1 q j)
  where
    go : (b : Bool) → IsIn q (cond b (part ∷ closes_for who ms) (closes_for who ms)) → (IsIn q (closes_for who ms) → IsIn q (dones_for who ms) ⊎ IsAborted s ms who) → IsIn q (cond b (part ∷ dones_for who ms) (dones_for who ms)) ⊎ IsAborted s (Done x part ∷ ms) who
    go true i next = ⊎_elim (λ e. inl (inl e)) (λ r. ⊎_elim (λ a. inl (inr a)) (λ a. inr (aborted_more s p who (Done x part) ms fit.0.0 fit.0.1 a)) (next r)) i
    go false i next = ⊎_elim (λ a. inl a) (λ a. inr (aborted_more s p who (Done x part) ms fit.0.0 fit.0.1 a)) (next i)
closes_done s p who (Undone x part ∷ ms) fit q i =
    ⊎_elim
    (λ t. inr (aborted_more s p who (Undone x part) ms fit.0.0 fit.0.1 (subst (IsAborted s ms) t.1 fit.0.1.4)))
    (λ t. ⊎_elim (λ a. inl a) (λ a. inr (aborted_more s p who (Undone x part) ms fit.0.0 fit.0.1 a)) (closes_done s p who ms fit.1 q (rw t.0 at i)))
    (attempt_tells x who)
closes_done s p who (Start x ∷ ms) fit q i = ⊎_elim (λ a. inl a) (λ a. inr (aborted_more s p who (Start x) ms fit.0.0 fit.0.1 a)) (closes_done s p who ms fit.1 q i)
closes_done s p who (m ∷ ms) fit q i = ⊎_elim (λ a. inl a) (λ a. inr (aborted_more s p who m ms fit.0.0 fit.0.1 a)) (closes_done s p who ms fit.1 q i)

closes_undone : (s : Setting) (p : ℕ) (who : Attempt) (ms : List Msg) → AllFit s p ms → (q : ℕ) → IsIn q (closes_for who ms) → IsIn q (undones_for who ms) ⊎ ((n : Number) × Decides s ms who (Commit who n))
closes_undone s p who [] fit q i = inl i
closes_undone s p who (Undone x part ∷ ms) fit q i = go (attempt_eq x who) i (λ j. closes_undone s p who ms fit.1 q j)
  where
    go : (b : Bool) → IsIn q (cond b (part ∷ closes_for who ms) (closes_for who ms)) → (IsIn q (closes_for who ms) → IsIn q (undones_for who ms) ⊎ ((n : Number) × Decides s ms who (Commit who n))) → IsIn q (cond b (part ∷ undones_for who ms) (undones_for who ms)) ⊎ ((n : Number) × Decides s (Undone x part ∷ ms) who (Commit who n))
    go true i next = ⊎_elim (λ e. inl (inl e)) (λ r. ⊎_elim (λ a. inl (inr a)) (λ a. inr (a.0, decides_more s p who (Commit who a.0) (Undone x part) ms fit.0.0 fit.0.1 a.1)) (next r)) i
    go false i next = ⊎_elim (λ a. inl a) (λ a. inr (a.0, decides_more s p who (Commit who a.0) (Undone x part) ms fit.0.0 fit.0.1 a.1)) (next i)
closes_undone s p who (Done x part ∷ ms) fit q i =
    ⊎_elim
    (λ t. inr (fit.0.1.4.0, decides_more s p who (Commit who fit.0.1.4.0) (Done x part) ms fit.0.0 fit.0.1 (subst (λ y. Decides s ms y (Commit y fit.0.1.4.0)) t.1 fit.0.1.4.1)))
    (λ t. ⊎_elim (λ a. inl a) (λ a. inr (a.0, decides_more s p who (Commit who a.0) (Done x part) ms fit.0.0 fit.0.1 a.1)) (closes_undone s p who ms fit.1 q (rw t.0 at i)))
    (attempt_tells x who)
closes_undone s p who (Start x ∷ ms) fit q i = ⊎_elim (λ a. inl a) (λ a. inr (a.0, decides_more s p who (Commit who a.0) (Start x) ms fit.0.0 fit.0.1 a.1)) (closes_undone s p who ms fit.1 q i)
closes_undone s p who (m ∷ ms) fit q i = ⊎_elim (λ a. inl a) (λ a. inr (a.0, decides_more s p who (Commit who a.0) m ms fit.0.0 fit.0.1 a.1)) (closes_undone s p who ms fit.1 q i)

module _ (s : Setting) (v : Valid s) (H : List Entry) (flight : List Mail) (g : Good s H flight) where
  abbrev at : TxnId → List Msg
  at x = heard (home s x) H

  fit_at : (x : TxnId) → AllFit s (home s x) (at x)
  fit_at x = g.fit (home s x)

  or_left : (a b : Bool) → a ≡ true → (a || b) ≡ true
  or_left true b e = refl
  or_left false b e = absurd (true≢false (sym e))

  or_right : (a : Bool) {b : Bool} → b ≡ true → (a || b) ≡ true
  or_right true e = refl
  or_right false e = e

  module _ (x : TxnId) (o : OverBy s (home s x) x (at x)) where
    as_o : record { txn = x; turn = o.who.turn } ≡ o.who
    as_o = λ j. record { txn = sym o.own j; turn = o.who.turn }

    home_o : home s o.who.txn ≡ home s x
    home_o = ap (home s) o.own

    over_started : started_for o.who (at x) ≡ true
    over_started = ⊎_elim (λ d. d.1.0.0.0) (λ a. aborted_started s (home s x) o.who (at x) (fit_at x) a.0) o.kind

    over_done : (n : Number) → Decides s (at x) o.who (Commit o.who n) → all_done s H o.who ≡ true
    over_done n d =
        let is : told s (at x) o.who ≡ participants s o.who = ap (λ r. cond r (asked_partitions s (at x) o.who) (participants s o.who)) d.0.0.1 in
        let all : (started_for o.who (at x) && all_closed (dones_for o.who (at x)) (participants s o.who)) ≡ true
        = and_true (started_for o.who (at x)) (all_closed (dones_for o.who (at x)) (participants s o.who)) over_started
        (all_there (dones_for o.who (at x)) (participants s o.who) (λ q j. ⊎_elim (λ a. a) (λ a. absurd (not_both s (at x) o.who n a d)) (closes_done s (home s x) o.who (at x) (fit_at x) q (closed_there (closes_for o.who (at x)) (told s (at x) o.who) q o.closed.all (subst (IsIn q) (sym is) j))))) in
        subst (λ h. (started_for o.who (heard h H) && all_closed (dones_for o.who (heard h H)) (participants s o.who)) ≡ true) (sym home_o) all

    over_undone : IsAborted s (at x) o.who → all_undone s H o.who ≡ true
    over_undone a =
        let all : (started_for o.who (at x) && all_closed (undones_for o.who (at x)) (told s (at x) o.who)) ≡ true
        = and_true (started_for o.who (at x)) (all_closed (undones_for o.who (at x)) (told s (at x) o.who)) over_started
        (all_there (undones_for o.who (at x)) (told s (at x) o.who) (λ q j. ⊎_elim (λ b. b) (λ b. absurd (not_both s (at x) o.who b.0 a b.1)) (closes_undone s (home s x) o.who (at x) (fit_at x) q (closed_there (closes_for o.who (at x)) (told s (at x) o.who) q o.closed.all j)))) in
        subst (λ h. (started_for o.who (heard h H) && all_closed (undones_for o.who (heard h H)) (told s (heard h H) o.who)) ≡ true) (sym home_o) all

    -- the attempt that made it over has ended
    pub over_ends : has_ended s H o.who ≡ true
    over_ends = ⊎_elim (λ d. or_left (all_done s H o.who) (all_undone s H o.who) (over_done d.0 d.1)) (λ a. or_right (all_done s H o.who) (over_undone a.0)) o.kind

    over_told : is_over s H x ≡ true
    over_told =
        ⊎_elim
        (λ d.
        let w = done_turn_some s H x s.attempts o.who.turn low high (subst (λ z. all_done s H z ≡ true) (sym as_o) (over_done d.0 d.1)) in
        subst (λ z. (some_of z || all_undone s H (attempt x s.attempts)) ≡ true) (sym w.1) refl)
        (λ a.
        let turn : o.who.turn ≡ s.attempts = omega (arith, a.1, high) in
        or_right (some_of (done_turn s H x s.attempts)) (subst (λ n. all_undone s H (attempt x n) ≡ true) turn (subst (λ z. all_undone s H z ≡ true) (sym as_o) (over_undone a.0))))
        o.kind
      where
        low : 1 ≤ o.who.turn
        low = started_turn s (home s x) o.who (at x) (fit_at x) over_started

        high : o.who.turn ≤ s.attempts
        high = turn_bound s (home s x) o.who (at x) v.attempts (fit_at x) over_started

  -- who is over by its closes is decided or given up
  pub over_true : (x : TxnId) → IsIn x (over_ids s (at x)) → is_over s H x ≡ true
  over_true x i = over_told x (over_by s (home s x) x (at x) (fit_at x) i)

  -- the transaction of an attempt that is done is over
  pub done_over : (who : Attempt) → all_done s H who ≡ true → IsIn who.txn (over_ids s (at_home s H who))
  done_over who d =
      let b = and_parts (started_for who (at_home s H who)) (all_closed (dones_for who (at_home s H who)) (participants s who)) d in
      let c = done_commit s v H flight g who d in
      let dec = (decided s v H flight g who c.1.1 c.1.0 c.1.2).0 in
      let is : told s (at_home s H who) who ≡ participants s who = ap (λ r. cond r (asked_partitions s (at_home s H who) who) (participants s who)) dec.0.0.1 in
      let t = told_some s v H flight g who (at_home s H who) c.0 in
      let cl : all_closed (closes_for who (at_home s H who)) (told s (at_home s H who) who) ≡ true
      = subst (λ l. all_closed (closes_for who (at_home s H who)) l ≡ true) (sym is) (all_there (closes_for who (at_home s H who)) (participants s who) (λ q i. dones_close who q (at_home s H who) (closed_there (dones_for who (at_home s H who)) (participants s who) q b.1 i))) in
      ⊎_elim (λ o. o.0) (λ a. absurd (not_both s (at_home s H who) who c.1.1 a.0 dec)) (closed_ends s (home s who.txn) who (at_home s H who) (fit_at who.txn) (record { all = cl; some = t.0; here = t.1 }))

  -- that of one that is undone is over, or its next turn was said
  pub undone_ends : (who : Attempt) → all_undone s H who ≡ true → Ends s (home s who.txn) who (at_home s H who)
  undone_ends who d =
      let b = and_parts (started_for who (at_home s H who)) (all_closed (undones_for who (at_home s H who)) (told s (at_home s H who) who)) d in
      let t = told_some s v H flight g who (at_home s H who) (started_ids s (home s who.txn) who (at_home s H who) (fit_at who.txn) b.0) in
      let cl = all_there (closes_for who (at_home s H who)) (told s (at_home s H who) who) (λ q i. undones_close who q (at_home s H who) (closed_there (undones_for who (at_home s H who)) (told s (at_home s H who) who) q b.1 i)) in
      closed_ends s (home s who.txn) who (at_home s H who) (fit_at who.txn) (record { all = cl; some = t.0; here = t.1 })

  -- and the other way
  pub true_over : (x : TxnId) → is_over s H x ≡ true → IsIn x (over_ids s (at x))
  true_over x e = go (done_turn s H x s.attempts) refl e
    where
      go : (o : Option Attempt) → done_turn s H x s.attempts ≡ o → (some_of o || all_undone s H (attempt x s.attempts)) ≡ true → IsIn x (over_ids s (at x))
      go None eo e = ⊎_elim (λ o. o.0) (λ a. absurd (omega (arith, a.1))) (undone_ends (attempt x s.attempts) e)
      go (Some who) eo e = let is = done_turn_is s H x s.attempts who eo in subst (λ y. IsIn y (over_ids s (at y))) is.0 (done_over who is.1)
