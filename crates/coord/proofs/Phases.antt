-- In which phase each message meets the attempt that it is of.
use Rattle.std.proofs.Common.{◌≡◌, ◌⊎◌, ℕ, List, true, eqb, sym, ◌∙◌, subst, inl, inr, ⊎_elim, arith, Option, Some, true≢false}
use Rattle.std.specs.List.{list_any}
use Rattle.deneva_base.specs.declared.keys.Key.{Key}
use Rattle.deneva_base.specs.declared.keys.Mode.{Mode}
use Rattle.deneva_base.specs.declared.numbers.Attempt.{Attempt}
use Rattle.deneva_base.specs.declared.numbers.TxnId.{TxnId}
use Rattle.deneva_base.specs.Lists.{IsIn}
use Rattle.server_core.specs.declared.messages.Msg.{Msg}
use Rattle.server_core.specs.Setting.{Setting, participants}
use Rattle.server_core.specs.Received.{votes_for, closes_for}
use Rattle.server_core.specs.declared.ballots.Ballot.{Ballot}
use Rattle.server_core.specs.VotingFits.{AllFit, IsAsking, HasAll, HasVoted}
use Rattle.server_core.proofs.values.Decisions.{asks_no_more}
use Rattle.server_core.proofs.counts.Ends.{not_all, off_if}
use Rattle.server_core.proofs.values.Closed.{closed_there}
use Rattle.coord.specs.States.{State}
use Rattle.coord.specs.Following.{Heard, heard_of, turns_of, told_to, IsPolled, HasEnded, Asks, Polls, Closes, Restarts, IsInPhase, IsCurrent, Follows}
use Rattle.coord.proofs.Turns.{current}

-- the current attempt, in a phase
pub record Met (s : Setting) (x : TxnId) (h : ℕ → Heard) (o : Option State) (n : ℕ) (P : State → Type 0) : Type 0 where
  pub state : State
  pub is : o ≡ Some state
  pub now : IsCurrent s x h state
  pub turn : state.turn ≡ n
  pub phase : P state

module _ (s : Setting) (p : ℕ) (ms : List Msg) (fit : AllFit s p ms) (who : Attempt) (o : Option State) (follows : Follows s who.txn (turns_of s p ms who.txn) o) where
  abbrev x : TxnId
  x = who.txn

  abbrev h : Heard
  h = heard_of s p ms who

  met : (P : State → Type 0) → h.started ≡ true → (HasEnded s who.txn (heard_of s p ms who) → ⊥) → ((t : State) → IsInPhase s who.txn (heard_of s p ms who) t → P t) → Met s who.txn (turns_of s p ms who.txn) o who.turn P
  met P e open' f =
      let c = current s p who.txn ms fit o who.turn follows e open' in
      record { state = c.0; is = c.1; now = c.2; turn = c.3; phase = f c.0 (subst (λ n. IsInPhase s x (turns_of s p ms x n) c.0) c.3 c.2.phase) }

  -- a grant or a refusal: it asks
  module _ (key : Key) (mode : Mode) (a : IsAsking s ms who key mode) where
    asks_open : (h.refused ≡ true) ⊎ IsPolled s x h → ⊥
    asks_open e = ⊎_elim (λ r. true≢false (sym r ∙ a.1)) (λ d. asks_no_more s p who ms key mode a d.0) e

    asks_phase : (t : State) → IsInPhase s x h t → Asks s x h t
    asks_phase t i = ⊎_elim
        (λ asks. asks)
        (λ r. ⊎_elim
        (λ (q : Polls s x h t). absurd (asks_no_more s p who ms key mode a (a.0, a.1, q.all)))
        (λ r. ⊎_elim
        (λ (q : Closes s x h t). absurd (asks_open q.ends))
        (λ (q : Restarts s x h t). absurd (asks_open (⊎_elim (λ b. inl b) (λ b. inr b.0) q.aborted)))
        r)
        r)
        i

    pub asks_met : Met s who.txn (turns_of s p ms who.txn) o who.turn (Asks s who.txn (heard_of s p ms who))
    asks_met = met (Asks s x h) a.0 (λ e. asks_open e.0) asks_phase

  -- a vote: its participants vote
  module _ (part : ℕ) (there : IsIn part (participants s who)) (all : HasAll s ms who) (once : HasVoted ms who part → ⊥) where
    votes_open : (h.refused ≡ true) ⊎ IsPolled s x h → ⊥
    votes_open e = ⊎_elim
        (λ r. true≢false (sym r ∙ all.1))
        (λ d. true≢false (sym d.1 ∙ not_all (votes_for who ms) (participants s who) part there (off_if (list_any (λ (b : Ballot). eqb b.part part) (votes_for who ms)) once)))
        e

    votes_phase : (t : State) → IsInPhase s x h t → Polls s x h t
    votes_phase t i = ⊎_elim
        (λ (q : Asks s x h t). absurd (omega (arith, q.more, all.2)))
        (λ r. ⊎_elim
        (λ polls. polls)
        (λ r. ⊎_elim
        (λ (q : Closes s x h t). absurd (votes_open q.ends))
        (λ (q : Restarts s x h t). absurd (votes_open (⊎_elim (λ b. inl b) (λ b. inr b.0) q.aborted)))
        r)
        r)
        i

    pub votes_met : Met s who.txn (turns_of s p ms who.txn) o who.turn (Polls s who.txn (heard_of s p ms who))
    votes_met = met (Polls s x h) all.0 (λ e. votes_open e.0) votes_phase

  -- a Done or an Undone: it ends
  module _ (part : ℕ) (started : (heard_of s p ms who).started ≡ true) (there : IsIn part (told_to s who.txn (heard_of s p ms who))) (once : IsIn part (closes_for who ms) → ⊥) (ends : ((heard_of s p ms who).refused ≡ true) ⊎ IsPolled s who.txn (heard_of s p ms who)) where
    closes_phase : (t : State) → IsInPhase s x h t → Closes s x h t
    closes_phase t i = ⊎_elim
        (λ (q : Asks s x h t). absurd (⊎_elim (λ r. true≢false (sym r ∙ q.unrefused)) (λ d. omega (arith, q.more, d.0.2)) ends))
        (λ r. ⊎_elim
        (λ (q : Polls s x h t). absurd (⊎_elim (λ r. true≢false (sym r ∙ q.unrefused)) (λ d. true≢false (sym d.1 ∙ q.more)) ends))
        (λ r. ⊎_elim
        (λ closes. closes)
        (λ (q : Restarts s x h t). absurd (once (closed_there h.closes (told_to s x h) part q.closed there)))
        r)
        r)
        i

    pub closes_met : Met s who.txn (turns_of s p ms who.txn) o who.turn (Closes s who.txn (heard_of s p ms who))
    closes_met = met (Closes s x h) started (λ e. once (closed_there h.closes (told_to s x h) part e.1 there)) closes_phase
