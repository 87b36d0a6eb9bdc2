-- The current attempt of a transaction at its home, and what each message makes of it.
use Rattle.std.specs.Prelude.{ℕ, suc, ◌+◌, ◌==◌, List, [], ◌∷◌, ◌++◌, map, filter, slice_get, reverse, Bool, not, nat_lt, Option, Some, None, if◌then◌else◌}
use Rattle.deneva_base.specs.declared.keys.Access.{Access}
use Rattle.deneva_base.specs.declared.causes.Bound.{Bound}
use Rattle.deneva_base.specs.declared.numbers.Attempt.{Attempt}
use Rattle.deneva_base.specs.declared.rows.Keyed.{Keyed}
use Rattle.deneva_base.specs.Modes.{reads}
use Rattle.deneva_base.specs.Rows.{Row}
use Rattle.server_core.specs.declared.messages.Mail.{Mail}
use Rattle.server_core.specs.declared.messages.Msg.TheVariants.{Start, Abort}
use Rattle.server_core.specs.Coordinator.{ask_of, prepare_to, to_all, decision, first_no}
use Rattle.server_core.specs.Received.{Reply}
use Rattle.server_core.specs.declared.ballots.Ballot.{Ballot}
use Rattle.server_core.specs.Setting.{Setting, take_first, partitions_of}
use Rattle.coord.specs.Bounds.{bound_with}

-- while it asks, the accesses granted so far: their number, the rows of those that read, and the greatest bound; then the
-- votes, the oldest first, and the partitions that have not voted; then the partitions from which no Done or Undone came
pub record State : Type 0 where
  pub turn : ℕ
  pub stamp : ℕ
  pub accesses : List Access
  pub granted : ℕ
  pub rows : List Keyed
  pub bound : Bound
  pub ballots : List Ballot
  pub left : List ℕ

abbrev pub no_bound : Bound
no_bound = record { n = 0; key = record { table = 0; a = 0; b = 0; c = 0 } }

abbrev pub begun : ℕ → ℕ → List Access → State
begun turn stamp accesses = record { turn = turn; stamp = stamp; accesses = accesses; granted = 0; rows = []; bound = no_bound; ballots = []; left = [] }

-- the row of an access that reads
abbrev pub row_read : Access → Row → List Keyed
row_read a row = if reads a.mode then record { key = a.key; row = row } ∷ [] else []

-- one more access is granted
abbrev pub taken : Access → Reply → State → State
taken a r t = record {
  turn = t.turn;
  stamp = t.stamp;
  accesses = t.accesses;
  granted = t.granted + 1;
  rows = t.rows ++ row_read a r.row;
  bound = bound_with t.bound r.bound r.key (t.granted == 0);
  ballots = t.ballots;
  left = t.left;
}

abbrev pub with_left : List ℕ → State → State
with_left left t = record { turn = t.turn; stamp = t.stamp; accesses = t.accesses; granted = t.granted; rows = t.rows; bound = t.bound; ballots = t.ballots; left = left }

abbrev pub with_ballot : Ballot → List ℕ → State → State
with_ballot b left t = record { turn = t.turn; stamp = t.stamp; accesses = t.accesses; granted = t.granted; rows = t.rows; bound = t.bound; ballots = t.ballots ++ b ∷ []; left = left }

abbrev pub participants_of : Setting → State → List ℕ
participants_of s t = partitions_of s.parts t.accesses

-- it asks for its next access, or has all its participants vote
abbrev pub going_on : Setting → State → Option Access → State
going_on s t (Some a) = t
going_on s t None = with_left (participants_of s t) t

abbrev pub next_mails : Setting → ℕ → Attempt → State → Option Access → List Mail
next_mails s p who t (Some a) = ask_of s p who t.stamp a ∷ []
next_mails s p who t None = map (prepare_to s p who t.bound (s.effect who.txn t.rows)) (participants_of s t)

-- the access that it asked for is granted
abbrev pub granted_as : Setting → Reply → State → Option Access → State
granted_as s r t None = t
granted_as s r t (Some a) = going_on s (taken a r t) (slice_get t.accesses (t.granted + 1))

abbrev pub granted : Setting → Reply → State → State
granted s r t = granted_as s r t (slice_get t.accesses t.granted)

abbrev pub mails_as : Setting → ℕ → Attempt → Reply → State → Option Access → List Mail
mails_as s p who r t None = []
mails_as s p who r t (Some a) = next_mails s p who (taken a r t) (slice_get t.accesses (t.granted + 1))

abbrev pub granted_mails : Setting → ℕ → Attempt → Reply → State → List Mail
granted_mails s p who r t = mails_as s p who r t (slice_get t.accesses t.granted)

-- it is refused
abbrev pub asked_of : Setting → State → List ℕ
asked_of s t = partitions_of s.parts (take_first (suc t.granted) t.accesses)

abbrev pub refused : Setting → State → State
refused s t = with_left (asked_of s t) t

abbrev pub refused_mails : Setting → ℕ → Attempt → State → List Mail
refused_mails s p who t = to_all p (Abort who) (asked_of s t)

-- a partition is no longer waited for
abbrev pub without : ℕ → List ℕ → List ℕ
without part left = filter (λ q. not (q == part)) left

-- a participant votes: after the last vote, the decision is told to all
abbrev pub voted_as : Setting → Ballot → State → List ℕ → State
voted_as s b t [] = with_ballot b (participants_of s t) t
voted_as s b t (q ∷ left) = with_ballot b (q ∷ left) t

abbrev pub voted : Setting → Ballot → State → State
voted s b t = voted_as s b t (without b.part t.left)

-- what the votes decide, told to all participants
abbrev pub decision_mails : Setting → ℕ → Attempt → State → List Mail
decision_mails s p who t = to_all p (decision who (reverse t.ballots) (first_no None (reverse t.ballots))) (participants_of s t)

abbrev pub verdict_mails : Setting → ℕ → Attempt → Ballot → State → List ℕ → List Mail
verdict_mails s p who b t [] = decision_mails s p who (with_ballot b [] t)
verdict_mails s p who b t (q ∷ left) = []

abbrev pub voted_mails : Setting → ℕ → Attempt → Ballot → State → List Mail
voted_mails s p who b t = verdict_mails s p who b t (without b.part t.left)

-- a partition says that the attempt has ended there
abbrev pub done_as : State → List ℕ → Option State
done_as t [] = None
done_as t (q ∷ left) = Some (with_left (q ∷ left) t)

abbrev pub done : ℕ → State → Option State
done part t = done_as t (without part t.left)

-- after the last Undone it waits for its next turn, if it has one
abbrev pub undone_as : Setting → Attempt → State → List ℕ → Option State
undone_as s who t [] = if nat_lt who.turn s.attempts then Some (with_left [] t) else None
undone_as s who t (q ∷ left) = Some (with_left (q ∷ left) t)

abbrev pub undone : Setting → Attempt → ℕ → State → Option State
undone s who part t = undone_as s who t (without part t.left)

-- what is said when none is left: so that the transaction is over, it makes room for the next
abbrev pub if_none_left : List Mail → List ℕ → List Mail
if_none_left mails [] = mails
if_none_left mails (q ∷ left) = []

abbrev pub next_turn : ℕ → Attempt → List Mail
next_turn p who = record { from = p; to = p; msg = Start (record { txn = who.txn; turn = who.turn + 1 }) } ∷ []

abbrev pub undone_mails : Setting → ℕ → Attempt → List Mail → List Mail
undone_mails s p who next = if nat_lt who.turn s.attempts then next_turn p who else next

-- how many transactions are over then
abbrev pub risen : Bool → ℕ → List ℕ → ℕ
risen over n [] = if over then n + 1 else n
risen over n (q ∷ left) = n

-- the stamp of the attempt before
abbrev pub kept_stamp : Option State → ℕ
kept_stamp None = 0
kept_stamp (Some t) = t.stamp

-- what is said when an attempt begins
abbrev pub ask_first : Setting → ℕ → Attempt → ℕ → Option Access → List Mail
ask_first s p who stamp None = []
ask_first s p who stamp (Some a) = ask_of s p who stamp a ∷ []

abbrev pub first_ask : Setting → ℕ → Attempt → ℕ → List Mail
first_ask s p who stamp = ask_first s p who stamp (slice_get (s.accesses who.txn) 0)
