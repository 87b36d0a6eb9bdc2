-- Which messages change what came for the attempts of a transaction, and which attempt a message that fits is of.
use Rattle.std.proofs.Common.{◌≡◌, ◌⊎◌, ℕ, ◌<◌, ◌≤◌, List, ◌∷◌, Bool, true, false, cond, refl, sym, subst, inl, inr, ⊎_elim, arith, Option, Some, None}
use Rattle.std.proofs.lemmas.Bool.Decides.{eqb_tells}
use Rattle.deneva_base.specs.declared.numbers.Attempt.{Attempt}
use Rattle.deneva_base.specs.declared.numbers.TxnId.{TxnId}
use Rattle.deneva_base.specs.Keys.{attempt_eq, id_eq}
use Rattle.deneva_base.proofs.Membership.{attempt_tells}
use Rattle.server_core.specs.declared.messages.Msg.{Msg}
use Rattle.server_core.specs.declared.messages.Msg.TheVariants.{Start, Ask, Granted, Refused, Yes, No, Done, Undone}
use Rattle.server_core.specs.Setting.{Setting}
use Rattle.server_core.specs.VotingFits.{AllFit}
use Rattle.server_core.proofs.values.EarlierTurns.{undone_before}
use Rattle.server_core.proofs.counts.Starts.{started_turn}
use Rattle.coord.specs.States.{State}
use Rattle.coord.specs.Following.{Heard, heard_of, turns_of, HasEnded, IsCurrent, Follows}

-- the message is one to the home of the transaction
abbrev pub touches : TxnId → Msg → Bool
touches x (Start who) = id_eq who.txn x
touches x (Granted who key row version bound) = id_eq who.txn x
touches x (Refused who key cause) = id_eq who.txn x
touches x (Yes who part lo hi) = id_eq who.txn x
touches x (No who part cause) = id_eq who.txn x
touches x (Done who part) = id_eq who.txn x
touches x (Undone who part) = id_eq who.txn x
touches x m = false

apart : (a b : Attempt) → id_eq a.txn b.txn ≡ false → attempt_eq a b ≡ false
apart a b e = rw e refl

pub itself : (y : Attempt) → attempt_eq y y ≡ true
itself y = ⊎_elim (λ t. t.0) (λ f. absurd (f.1 refl)) (attempt_tells y y)

-- no other message changes what came for its attempts
pub heard_other : (s : Setting) (p : ℕ) (x : TxnId) (turn : ℕ) (m : Msg) (ms : List Msg) → touches x m ≡ false → heard_of s p (m ∷ ms) (record { txn = x; turn = turn }) ≡ heard_of s p ms (record { txn = x; turn = turn })
heard_other s p x turn (Start who) ms e = rw (apart who (record { txn = x; turn = turn }) e, first s.fixed) refl
  where
    first : (b : Bool) → attempt_eq who (cond b (record { txn = x; turn = 1 }) (record { txn = x; turn = turn })) ≡ false
    first true = apart who (record { txn = x; turn = 1 }) e
    first false = apart who (record { txn = x; turn = turn }) e
heard_other s p x turn (Granted who key row version bound) ms e = rw (apart who (record { txn = x; turn = turn }) e) refl
heard_other s p x turn (Refused who key cause) ms e = rw (apart who (record { txn = x; turn = turn }) e) refl
heard_other s p x turn (Yes who part lo hi) ms e = rw (apart who (record { txn = x; turn = turn }) e) refl
heard_other s p x turn (No who part cause) ms e = rw (apart who (record { txn = x; turn = turn }) e) refl
heard_other s p x turn (Done who part) ms e = rw (apart who (record { txn = x; turn = turn }) e) refl
heard_other s p x turn (Undone who part) ms e = rw (apart who (record { txn = x; turn = turn }) e) refl
heard_other s p x turn (Ask who stamp key mode) ms e = refl
heard_other s p x turn m ms e = refl

pub follows_other : (s : Setting) (p : ℕ) (x : TxnId) (o : Option State) (m : Msg) (ms : List Msg) → touches x m ≡ false → Follows s x (turns_of s p ms x) o → Follows s x (turns_of s p (m ∷ ms) x) o
follows_other s p x o m ms e h =
    let same : turns_of s p ms x ≡ turns_of s p (m ∷ ms) x = λ i turn. sym (heard_other s p x turn m ms e) i in
    subst (λ (t : ℕ → Heard). Follows s x t o) same h

module _ (s : Setting) (p : ℕ) (x : TxnId) (ms : List Msg) (fit : AllFit s p ms) where
  -- each attempt before one that is started has ended
  pub earlier_ended : (turn later : ℕ) → 1 ≤ turn → turn < later → (turns_of s p ms x later).started ≡ true → HasEnded s x (turns_of s p ms x turn)
  earlier_ended turn later low less e =
      let u = undone_before s p x turn later ms fit low less e in
      (⊎_elim (λ r. inl r) (λ d. inr d.0) u.0, u.1)

  -- an attempt that has not ended is the current one
  pub current : (o : Option State) (turn : ℕ) → Follows s x (turns_of s p ms x) o → (turns_of s p ms x turn).started ≡ true → (HasEnded s x (turns_of s p ms x turn) → ⊥) → (t : State) × (o ≡ Some t) × IsCurrent s x (turns_of s p ms x) t × (t.turn ≡ turn)
  current None turn f e open' = absurd (open' (f.ended turn e))
  current (Some t) turn f e open' =
      ⊎_elim
      (λ less. absurd (open' (earlier_ended turn t.turn (started_turn s p (record { txn = x; turn = turn }) ms fit e) less f.started)))
      (λ same. (t, refl, f, same))
      (split t.turn turn (f.latest turn e))
    where
      split : (a b : ℕ) → b ≤ a → (b < a) ⊎ (a ≡ b)
      split a b l = ⊎_elim (λ e. inr e.1) (λ n. inl (omega (arith, l, n.1))) (eqb_tells a b)
