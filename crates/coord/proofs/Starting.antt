-- A Start: the state after it, and what is said.
use Rattle.std.proofs.Common.{◌≡◌, ◌⊎◌, ℕ, zero, suc, ◌+◌, ◌*◌, ◌<◌, ◌≤◌, List, [], ◌∷◌, length, reverse, slice_get, Bool, true, false, cond, not, ◌||◌, eqb, refl, sym, ap, ◌∙◌, subst, inl, inr, ⊎_elim, arith, Option, Some, None, true≢false}
use Rattle.std.proofs.lemmas.Bool.Decides.{eqb_tells}
use Rattle.deneva_base.specs.declared.keys.Access.{Access}
use Rattle.deneva_base.specs.declared.numbers.Attempt.{Attempt}
use Rattle.deneva_base.specs.declared.numbers.Number.{Number}
use Rattle.deneva_base.specs.declared.numbers.TxnId.{TxnId}
use Rattle.deneva_base.specs.Keys.{attempt_eq}
use Rattle.deneva_base.specs.Lists.{IsIn}
use Rattle.deneva_base.proofs.Membership.{attempt_tells}
use Rattle.server_core.specs.declared.messages.Msg.{Msg}
use Rattle.server_core.specs.declared.messages.Msg.TheVariants.{Start, Ask, Yes, No}
use Rattle.server_core.specs.Coordinator.{coordinator, ask_of, next_ask, reads_of, bound_of}
use Rattle.server_core.specs.Proper.{Valid}
use Rattle.server_core.specs.Received.{votes_for, started_for}
use Rattle.server_core.specs.Setting.{Setting}
use Rattle.server_core.specs.Stamps.{counter, stamp_from, stamped}
use Rattle.server_core.specs.VotingFits.{Suits, AllFit, AllUndone}
use Rattle.server_core.specs.VotingFits as fits
use Rattle.server_core.proofs.counts.Asks.{unstarted}
use Rattle.server_core.proofs.values.Closings.{fate}
use Rattle.server_core.proofs.values.EarlierTurns.{undone_before, not_both}
use Rattle.server_core.proofs.counts.Ends.{off_if}
use Rattle.server_core.proofs.values.Origins.{aborted_started, refused_starts}
use Rattle.coord.specs.States.{State, begun, kept_stamp}
use Rattle.coord.specs.Following.{Heard, heard_of, turns_of, Asks, IsShut, Follows}
use Rattle.coord.proofs.Turns.{itself}

-- without a Start there was no vote
no_votes : (s : Setting) (p : ℕ) (who : Attempt) (ms : List Msg) → AllFit s p ms → started_for who ms ≡ false → votes_for who ms ≡ []
no_votes s p who [] fit e = refl
no_votes s p who (Yes x part lo hi ∷ ms) fit e =
    ⊎_elim
    (λ t. absurd (true≢false (sym (subst (λ y. started_for y ms ≡ true) t.1 fit.0.1.3.0) ∙ e)))
    (λ t. rw t.0 (no_votes s p who ms fit.1 e))
    (attempt_tells x who)
no_votes s p who (No x part cause ∷ ms) fit e =
    ⊎_elim
    (λ t. absurd (true≢false (sym (subst (λ y. started_for y ms ≡ true) t.1 fit.0.1.3.0) ∙ e)))
    (λ t. rw t.0 (no_votes s p who ms fit.1 e))
    (attempt_tells x who)
no_votes s p who (Start x ∷ ms) fit e = no_votes s p who ms fit.1 (later (attempt_eq x who) (started_for who ms) e)
  where
    later : (a b : Bool) → (a || b) ≡ false → b ≡ false
    later true b e = absurd (true≢false e)
    later false b e = e
no_votes s p who (Ask x stamp key mode ∷ ms) fit e = no_votes s p who ms fit.1 e
no_votes s p who (m ∷ ms) fit e = no_votes s p who ms fit.1 e

none_in : (xs : List ℕ) → ((q : ℕ) → IsIn q xs → ⊥) → xs ≡ []
none_in [] n = refl
none_in (x ∷ xs) n = absurd (n x (inl refl))

module _ (s : Setting) (v : Valid s) (p : ℕ) (ms : List Msg) (fit : AllFit s p ms) (who : Attempt) (f : ℕ) (suits : Suits s p f (Start who) ms) where
  abbrev x : TxnId
  x = who.txn

  abbrev h : Heard
  h = heard_of s p ms who

  unheard : h.started ≡ false
  unheard = off_if h.started suits.2

  low : 1 ≤ who.turn
  low = ⊎_elim (λ a. omega (arith, a.0)) (λ a. omega (arith, a.0)) suits.3

  no_grants : h.grants ≡ []
  no_grants = unstarted s p who ms fit unheard

  no_refusal : h.refused ≡ false
  no_refusal = off_if h.refused (λ r. suits.2 (refused_starts s p who ms fit r))

  no_closes : h.closes ≡ []
  no_closes = none_in h.closes (λ q i. suits.2 (⊎_elim (λ a. aborted_started s p who ms fit a) (λ d. d.1.0.0.0) (fate s p who ms fit q i)))

  some_access : 1 ≤ length (s.accesses x)
  some_access = v.some x suits.4

  -- an attempt that is started has no later turn than this one
  no_later : (n : ℕ) → started_for (record { txn = x; turn = n }) ms ≡ true → n ≤ who.turn
  no_later n e = go (leb' n who.turn)
    where
      leb' : (a b : ℕ) → (a ≤ b) ⊎ (b < a)
      leb' zero b = inl (omega arith)
      leb' (suc a) b = ⊎_elim (λ l. ⊎_elim (λ e'. inr (omega (arith, e'.1))) (λ ne. inl (omega (arith, l, ne.1))) (eqb_tells a b)) (λ g. inr (omega (arith, g))) (leb' a b)

      go : (n ≤ who.turn) ⊎ (who.turn < n) → n ≤ who.turn
      go (inl l) = l
      go (inr g) = absurd (suits.2 (aborted_started s p who ms fit (undone_before s p x who.turn n ms fit low g e).0))

  start_phase : (turn stamp : ℕ) → Asks s x h (begun turn stamp (s.accesses x))
  start_phase turn stamp = record {
    unrefused = no_refusal;
    more = let g = ap (λ l. length l) no_grants in omega (arith, some_access, g);
    count = sym (ap (λ l. length l) no_grants);
    rows = sym (ap (λ l. reads_of (s.accesses x) (reverse l)) no_grants ∙ none (s.accesses x));
    bound = sym (ap (λ l. bound_of (reverse l)) no_grants);
    ballots = refl;
    votes = no_votes s p who ms fit unheard;
    closes = no_closes;
  }
    where
      none : (l : List Access) → reads_of l [] ≡ []
      none [] = refl
      none (a ∷ l) = refl

  pub start_follows : (stamp : ℕ) → stamp ≡ stamp_from s p (Start who ∷ ms) (stamped s who) → Follows s who.txn (turns_of s p (Start who ∷ ms) who.txn) (Some (begun who.turn stamp (s.accesses who.txn)))
  start_follows stamp e = record {
    started = first (attempt_eq who who) (started_for who ms) (itself who);
    latest = λ n st.
        ⊎_elim
        (λ t. let is = ap (λ (y : Attempt). y.turn) t.1 in omega (arith, is))
        (λ t. no_later n (rw t.0 at st))
        (attempt_tells who (record { txn = x; turn = n }));
    accesses = refl;
    stamp = e;
    phase = inl (phase (start_phase who.turn stamp));
  }
    where
      first : (a b : Bool) → a ≡ true → (a || b) ≡ true
      first a b e = rw e refl

      phase : Asks s x h (begun who.turn stamp (s.accesses x)) → Asks s x (heard_of s p (Start who ∷ ms) who) (begun who.turn stamp (s.accesses x))
      phase a = record { unrefused = a.unrefused; more = a.more; count = a.count; rows = a.rows; bound = a.bound; ballots = a.ballots; votes = a.votes; closes = a.closes }

  pub start_says : (stamp : ℕ) (a : Access) → stamp ≡ stamp_from s p (Start who ∷ ms) (stamped s who) → slice_get (s.accesses who.txn) 0 ≡ Some a → coordinator s p (Start who) ms ≡ ask_of s p who stamp a ∷ []
  start_says stamp a e i = ap (next_ask s p who (stamp_from s p (Start who ∷ ms) (stamped s who)) []) i ∙ ap (λ n. ask_of s p who n a ∷ []) (sym e)

  -- a stamp is drawn at turn 1, and at every turn unless it is kept
  pub drawn : (eqb who.turn 1 || not s.fixed) ≡ true → counter s ms * s.parts + p + 1 ≡ stamp_from s p (Start who ∷ ms) (stamped s who)
  drawn e = go s.fixed (⊎_elim (λ t. inl t.1) (λ t. inr (rw t.0 at e)) (eqb_tells who.turn 1))
    where
      go : (b : Bool) → (who.turn ≡ 1) ⊎ (not b ≡ true) → counter s ms * s.parts + p + 1 ≡ cond (attempt_eq who (cond b (record { txn = x; turn = 1 }) who)) (counter s ms * s.parts + p + 1) (stamp_from s p ms (cond b (record { txn = x; turn = 1 }) who))
      go false c = rw (itself who) refl
      go true (inl one) = let same : attempt_eq who (record { txn = x; turn = 1 }) ≡ true = subst (λ n. attempt_eq who (record { txn = x; turn = n }) ≡ true) one (itself who) in rw same refl
      go true (inr n) = absurd (true≢false (sym n))

  pub kept : (o : Option State) → Follows s who.txn (turns_of s p ms who.txn) o → (eqb who.turn 1 || not s.fixed) ≡ false → kept_stamp o ≡ stamp_from s p (Start who ∷ ms) (stamped s who)
  kept o follows e = from o follows
    where
      later : who.turn ≡ 1 → ⊥
      later one = true≢false (sym (subst (λ n. (eqb n 1 || not s.fixed) ≡ true) (sym one) refl) ∙ e)

      fixed : s.fixed ≡ true
      fixed = two s.fixed (⊎_elim (λ t. absurd (later t.1)) (λ t. rw t.0 at e) (eqb_tells who.turn 1))
        where
          two : (b : Bool) → not b ≡ false → b ≡ true
          two true e = refl
          two false e = absurd (true≢false e)

      same : (turn : ℕ) → stamp_from s p ms (stamped s (record { txn = x; turn = turn })) ≡ stamp_from s p (Start who ∷ ms) (stamped s who)
      same turn =
          let apart : attempt_eq who (record { txn = x; turn = 1 }) ≡ false = ⊎_elim (λ t. absurd (later (ap (λ (y : Attempt). y.turn) t.1))) (λ t. t.0) (attempt_tells who (record { txn = x; turn = 1 })) in
          let last : stamp_from s p ms (record { txn = x; turn = 1 }) ≡ stamp_from s p (Start who ∷ ms) (record { txn = x; turn = 1 }) = rw apart refl in
          ap (λ b. stamp_from s p ms (cond b (record { txn = x; turn = 1 }) (record { txn = x; turn = turn }))) fixed ∙ last ∙ ap (λ b. stamp_from s p (Start who ∷ ms) (cond b (record { txn = x; turn = 1 }) who)) (sym fixed)

      -- the attempt before this one was aborted, and had a turn left
      none_shut : (n : ℕ) → who.turn ≡ n → IsShut s x (turns_of s p ms x) → ⊥
      none_shut zero is shut = omega (arith, is, low)
      none_shut (suc n) is shut =
          let a : (who.turn ≤ s.attempts) × AllUndone s ms (record { txn = x; turn = n }) = ⊎_elim (λ one. absurd (later one.0)) (λ more. (more.1, subst (λ k. AllUndone s ms (fits.earlier_turn (record { txn = x; turn = k }))) is more.2)) suits.3 in
          let st = aborted_started s p (record { txn = x; turn = n }) ms fit a.1.0 in
          ⊎_elim
          (λ (c : (v : Number) × _). not_both s ms (record { txn = x; turn = n }) c.0 a.1.0 c.1)
          (λ r. ⊎_elim (λ l. omega (arith, l, is, a.0)) (λ next. suits.2 (subst (λ k. started_for (record { txn = x; turn = k }) ms ≡ true) (sym is) next)) r)
          (shut.last n st)

      from : (o : Option State) → Follows s x (turns_of s p ms x) o → kept_stamp o ≡ stamp_from s p (Start who ∷ ms) (stamped s who)
      from None shut = absurd (none_shut who.turn refl shut)
      from (Some t) now = now.stamp ∙ same t.turn
