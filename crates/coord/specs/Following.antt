-- How the state that is kept for a transaction follows from the messages that were handled: it is that of the current
-- attempt while the transaction is started and not over.
use Rattle.std.specs.Prelude.{◌≡◌, ◌⊎◌, ℕ, suc, ◌<◌, ◌≤◌, List, [], length, reverse, Bool, true, false, Option, Some, None, if◌then◌else◌}
use Rattle.deneva_base.specs.declared.numbers.Attempt.{Attempt}
use Rattle.deneva_base.specs.declared.numbers.Number.{Number}
use Rattle.deneva_base.specs.declared.numbers.TxnId.{TxnId}
use Rattle.server_core.specs.declared.messages.Msg.{Msg}
use Rattle.server_core.specs.declared.messages.Msg.TheVariants.{Commit, Abort}
use Rattle.server_core.specs.Coordinator.{decision, first_no, reads_of, bound_of}
use Rattle.server_core.specs.Received.{Reply, grants_for, votes_for, refused_for, closes_for, started_for, all_voted, all_closed}
use Rattle.server_core.specs.declared.ballots.Ballot.{Ballot}
use Rattle.server_core.specs.Setting.{Setting, take_first, partitions_of, participants_for}
use Rattle.server_core.specs.Stamps.{stamp_from, stamped}
use Rattle.server_core.specs.VotingFits.{AllFit}
use Rattle.coord.specs.Left.{left_to_vote, left_to_close}
use Rattle.coord.specs.States.{State}

-- what came for one attempt
pub record Heard : Type 0 where
  pub started : Bool
  pub stamp : ℕ
  pub grants : List Reply
  pub refused : Bool
  pub votes : List Ballot
  pub closes : List ℕ

abbrev pub heard_of : Setting → ℕ → List Msg → Attempt → Heard
heard_of s p ms who = record {
  started = started_for who ms;
  stamp = stamp_from s p ms (stamped s who);
  grants = grants_for who ms;
  refused = refused_for who ms;
  votes = votes_for who ms;
  closes = closes_for who ms;
}

-- for each turn of a transaction
abbrev pub turns_of : Setting → ℕ → List Msg → TxnId → ℕ → Heard
turns_of s p ms x turn = heard_of s p ms (record { txn = x; turn = turn })

-- the partitions to which its end was said: those asked after a refusal, else the participants
abbrev pub told_to : Setting → TxnId → Heard → List ℕ
told_to s x h = if h.refused then partitions_of s.parts (take_first (suc (length h.grants)) (s.accesses x)) else participants_for s x

-- all accesses are granted, and all participants have voted
abbrev pub IsPolled : Setting → TxnId → Heard → Type 0
IsPolled s x h = ((h.started ≡ true) × (h.refused ≡ false) × (length h.grants ≡ length (s.accesses x))) × (all_voted h.votes (participants_for s x) ≡ true)

abbrev pub HasDecided : Setting → Attempt → Heard → Msg → Type 0
HasDecided s who h m = IsPolled s who.txn h × (decision who h.votes (first_no None h.votes) ≡ m)

abbrev pub IsAborted : Setting → Attempt → Heard → Type 0
IsAborted s who h = (h.refused ≡ true) ⊎ HasDecided s who h (Abort who)

abbrev pub has_closed : Setting → TxnId → Heard → Bool
has_closed s x h = all_closed h.closes (told_to s x h)

-- it was refused or decided on, and every partition that was told has said so
abbrev pub HasEnded : Setting → TxnId → Heard → Type 0
HasEnded s x h = ((h.refused ≡ true) ⊎ IsPolled s x h) × (has_closed s x h ≡ true)

-- it asks for one access after another
pub record Asks (s : Setting) (x : TxnId) (h : Heard) (t : State) : Type 0 where
  pub unrefused : h.refused ≡ false
  pub more : length h.grants < length (s.accesses x)
  pub count : t.granted ≡ length h.grants
  pub rows : t.rows ≡ reads_of (s.accesses x) (reverse h.grants)
  pub bound : t.bound ≡ bound_of (reverse h.grants)
  pub ballots : t.ballots ≡ []
  pub votes : h.votes ≡ []
  pub closes : h.closes ≡ []

-- its participants vote
pub record Polls (s : Setting) (x : TxnId) (h : Heard) (t : State) : Type 0 where
  pub unrefused : h.refused ≡ false
  pub all : length h.grants ≡ length (s.accesses x)
  pub ballots : t.ballots ≡ reverse h.votes
  pub left : t.left ≡ left_to_vote h.votes (participants_for s x)
  pub more : all_voted h.votes (participants_for s x) ≡ false
  pub closes : h.closes ≡ []

-- it ends at the partitions that were told
pub record Closes (s : Setting) (x : TxnId) (h : Heard) (t : State) : Type 0 where
  pub ends : (h.refused ≡ true) ⊎ IsPolled s x h
  pub left : t.left ≡ left_to_close h.closes (told_to s x h)
  pub more : has_closed s x h ≡ false

-- it was aborted everywhere, and its next turn is on its way
pub record Restarts (s : Setting) (x : TxnId) (h : Heard) (t : State) : Type 0 where
  pub aborted : IsAborted s (record { txn = x; turn = t.turn }) h
  pub closed : has_closed s x h ≡ true
  pub turns : t.turn < s.attempts

abbrev pub IsInPhase : Setting → TxnId → Heard → State → Type 0
IsInPhase s x h t = Asks s x h t ⊎ (Polls s x h t ⊎ (Closes s x h t ⊎ Restarts s x h t))

-- the state is that of the last attempt that was started
pub record IsCurrent (s : Setting) (x : TxnId) (h : ℕ → Heard) (t : State) : Type 0 where
  pub started : (h t.turn).started ≡ true
  pub latest : (turn : ℕ) → (h turn).started ≡ true → turn ≤ t.turn
  pub accesses : t.accesses ≡ s.accesses x
  pub stamp : t.stamp ≡ (h t.turn).stamp
  pub phase : IsInPhase s x (h t.turn) t

-- each attempt that was started has ended, and either committed, or has no turn after it, or was followed by the next
pub record IsShut (s : Setting) (x : TxnId) (h : ℕ → Heard) : Type 0 where
  pub ended : (turn : ℕ) → (h turn).started ≡ true → HasEnded s x (h turn)
  pub last : (turn : ℕ) → (h turn).started ≡ true → ((n : Number) × HasDecided s (record { txn = x; turn = turn }) (h turn) (Commit (record { txn = x; turn = turn }) n)) ⊎ ((s.attempts ≤ turn) ⊎ ((h (suc turn)).started ≡ true))

abbrev pub Follows : Setting → TxnId → (ℕ → Heard) → Option State → Type 0
Follows s x h None = IsShut s x h
Follows s x h (Some t) = IsCurrent s x h t

-- the messages fit one after another, and each transaction has what they give
pub record Tracks (s : Setting) (p : ℕ) (open' : TxnId → Option State) (ms : List Msg) : Type 0 where
  pub fit : AllFit s p ms
  pub follows : (x : TxnId) → Follows s x (turns_of s p ms x) (open' x)
