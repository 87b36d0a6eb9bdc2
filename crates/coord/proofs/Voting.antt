-- A vote: the state after it, and what is said.
use Rattle.std.proofs.Common.{◌≡◌, ℕ, List, [], ◌∷◌, ◌++◌, reverse, Bool, refl, sym, ap, ap₂, ◌∙◌, subst, inl, inr, Option, Some, None}
use Rattle.std.proofs.lemmas.List.{reverse-reverse}
use Rattle.deneva_base.specs.declared.answers.Vote.TheVariants.{Yes as VotesYes, No as VotesNo}
use Rattle.deneva_base.specs.declared.causes.Cause.{Cause}
use Rattle.deneva_base.specs.declared.numbers.Attempt.{Attempt}
use Rattle.deneva_base.specs.declared.numbers.TxnId.{TxnId}
use Rattle.deneva_base.specs.Lists.{IsIn}
use Rattle.server_core.specs.declared.messages.Msg.{Msg}
use Rattle.server_core.specs.declared.messages.Msg.TheVariants.{Yes, No}
use Rattle.server_core.specs.Coordinator.{coordinator, decision, first_no, to_all, polled}
use Rattle.server_core.specs.Received.{votes_for, all_closed}
use Rattle.server_core.specs.declared.ballots.Ballot.{Ballot}
use Rattle.server_core.specs.Setting.{Setting, partitions_of, participants_for, participants}
use Rattle.server_core.specs.VotingFits.{AllFit, HasAll, HasVoted}
use Rattle.coord.specs.Left.{left_to_vote, left_to_close}
use Rattle.coord.specs.States.{State, voted, voted_as, voted_mails, verdict_mails, participants_of, without}
use Rattle.coord.specs.Following.{Heard, heard_of, turns_of, told_to, Polls, IsInPhase, Follows}
use Rattle.coord.proofs.Asking.{Moves, goes_on}
use Rattle.coord.proofs.Lists.{reverse_more, some_to_vote, none_closed}
use Rattle.coord.proofs.OneMore.{voted_more, left_none, closed_first}
use Rattle.coord.proofs.Phases.{votes_met}
use Rattle.coord.proofs.Turns.{itself}

abbrev with_vote : Ballot → Heard → Heard
with_vote b h = record { started = h.started; stamp = h.stamp; grants = h.grants; refused = h.refused; votes = b ∷ h.votes; closes = h.closes }

module _ (s : Setting) (p : ℕ) (ms : List Msg) (who : Attempt) (b : Ballot) (there : IsIn b.part (participants s who)) (all : HasAll s ms who) where
  abbrev x : TxnId
  x = who.txn

  abbrev h : Heard
  h = heard_of s p ms who

  abbrev qs : List ℕ
  qs = participants_for s x

  module _ (t : State) (is : t.accesses ≡ s.accesses x) (polls : Polls s x h t) where
    left_is : without b.part t.left ≡ left_to_vote (b ∷ h.votes) qs
    left_is = ap (without b.part) polls.left ∙ sym (voted_more b h.votes qs)

    ballots_more : t.ballots ++ b ∷ [] ≡ reverse (b ∷ h.votes)
    ballots_more = ap (λ (l : List Ballot). l ++ b ∷ []) polls.ballots ∙ sym (reverse_more b h.votes)

    parts_same : participants_of s t ≡ qs
    parts_same = ap (partitions_of s.parts) is

    votes_are : reverse (t.ballots ++ b ∷ []) ≡ b ∷ h.votes
    votes_are = ap reverse ballots_more ∙ reverse-reverse (b ∷ h.votes)

    phase_with : (l : List ℕ) → left_to_vote (b ∷ h.votes) qs ≡ l → IsInPhase s x (with_vote b h) (voted_as s b t l)
    phase_with [] e = inr (inr (inl (record {
      ends = inr (all, (left_none (b ∷ h.votes) qs).1 e);
      left = parts_same ∙ sym (closed_first qs) ∙ ap₂ (λ cs (r : Bool). left_to_close cs (told_to s x (record { started = h.started; stamp = h.stamp; grants = h.grants; refused = r; votes = b ∷ h.votes; closes = h.closes }))) (sym polls.closes) (sym polls.unrefused);
      more = ap₂ (λ cs (r : Bool). all_closed cs (told_to s x (record { started = h.started; stamp = h.stamp; grants = h.grants; refused = r; votes = b ∷ h.votes; closes = h.closes }))) polls.closes polls.unrefused ∙ none_closed qs b.part there;
    })))
    phase_with (y ∷ l) e = inr (inl (record {
      unrefused = polls.unrefused;
      all = polls.all;
      ballots = ballots_more;
      left = sym e;
      more = some_to_vote (b ∷ h.votes) qs y l e;
      closes = polls.closes;
    }))

    says_with : (l : List ℕ) → left_to_vote (b ∷ h.votes) qs ≡ l → polled s p who (b ∷ h.votes) ≡ verdict_mails s p who b t l
    says_with [] e = rw ((left_none (b ∷ h.votes) qs).1 e) (ap₂ (λ bs ps. to_all p (decision who bs (first_no None bs)) ps) (sym votes_are) (sym parts_same))
    says_with (y ∷ l) e = rw (some_to_vote (b ∷ h.votes) qs y l e) refl

    turn_same : (l : List ℕ) → (voted_as s b t l).turn ≡ t.turn
    turn_same [] = refl
    turn_same (y ∷ l) = refl

    accesses_same : (l : List ℕ) → (voted_as s b t l).accesses ≡ t.accesses
    accesses_same [] = refl
    accesses_same (y ∷ l) = refl

    stamp_same : (l : List ℕ) → (voted_as s b t l).stamp ≡ t.stamp
    stamp_same [] = refl
    stamp_same (y ∷ l) = refl

  module _ (once : HasVoted ms who b.part → ⊥) (fit : AllFit s p ms) (o : Option State) (follows : Follows s who.txn (turns_of s p ms who.txn) o) (m : Msg) where
    moves : heard_of s p (m ∷ ms) who ≡ with_vote b (heard_of s p ms who) → ((n : ℕ) → (turns_of s p (m ∷ ms) who.txn n).started ≡ (turns_of s p ms who.txn n).started) → ((n : ℕ) → (turns_of s p (m ∷ ms) who.txn n).stamp ≡ (turns_of s p ms who.txn n).stamp) → coordinator s p m ms ≡ polled s p who (b ∷ votes_for who ms) → Moves s p who.txn m ms o (λ t. Some (voted s b t)) (voted_mails s p who b)
    moves more started stamps says' =
        let met = votes_met s p ms fit who o follows b.part there all once in
        let t = met.state in
        let left = left_is t met.now.accesses met.phase in
        let phase : IsInPhase s x (with_vote b h) (voted s b t) = subst (λ l. IsInPhase s x (with_vote b h) (voted_as s b t l)) (sym left) (phase_with t met.now.accesses met.phase (left_to_vote (b ∷ h.votes) qs) refl) in
        record {
          state = t;
          is = met.is;
          now = met.now;
          follows = goes_on s x (turns_of s p ms x) (turns_of s p (m ∷ ms) x) t (voted s b t) met.now (turn_same t met.now.accesses met.phase (without b.part t.left)) (accesses_same t met.now.accesses met.phase (without b.part t.left)) (stamp_same t met.now.accesses met.phase (without b.part t.left)) started stamps
              (subst (λ n. IsInPhase s x (turns_of s p (m ∷ ms) x n) (voted s b t)) (sym met.turn) (subst (λ k. IsInPhase s x k (voted s b t)) (sym more) phase));
          says = says' ∙ says_with t met.now.accesses met.phase (left_to_vote (b ∷ h.votes) qs) refl ∙ ap (verdict_mails s p who b t) (sym left);
        }

module _ (s : Setting) (p : ℕ) (ms : List Msg) (fit : AllFit s p ms) (who : Attempt) (o : Option State) (follows : Follows s who.txn (turns_of s p ms who.txn) o) (part : ℕ) (there : IsIn part (participants s who)) (all : HasAll s ms who) (once : HasVoted ms who part → ⊥) where
  pub yes_moves : (lo hi : ℕ) → Moves s p who.txn (Yes who part lo hi) ms o (λ t. Some (voted s (record { part = part; vote = VotesYes lo hi }) t)) (voted_mails s p who (record { part = part; vote = VotesYes lo hi }))
  yes_moves lo hi = moves s p ms who (record { part = part; vote = VotesYes lo hi }) there all once fit o follows (Yes who part lo hi) (rw (itself who) refl) (λ n. refl) (λ n. refl) refl

  pub no_moves : (cause : Cause) → Moves s p who.txn (No who part cause) ms o (λ t. Some (voted s (record { part = part; vote = VotesNo cause }) t)) (voted_mails s p who (record { part = part; vote = VotesNo cause }))
  no_moves cause = moves s p ms who (record { part = part; vote = VotesNo cause }) there all once fit o follows (No who part cause) (rw (itself who) refl) (λ n. refl) (λ n. refl) refl
