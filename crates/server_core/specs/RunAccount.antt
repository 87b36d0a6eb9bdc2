-- The account of a run under a voting protocol: what is in flight for each attempt, waits, or was handled at its home.
use Rattle.std.specs.Prelude.{◌≡◌, ℕ, ◌+◌, ◌<◌, ◌≤◌, List, [], ◌∷◌, ◌++◌, length, filter, Bool, true, false, not, ◌&&◌, ◌||◌, Option, Some, None, if◌then◌else◌, ◌==◌}
use Rattle.std.specs.List.{list_any, list_all, flat_map}
use Rattle.deneva_base.specs.declared.numbers.TxnId.{TxnId}
use Rattle.deneva_base.specs.declared.numbers.Attempt.{Attempt}
use Rattle.deneva_base.specs.Keys.{attempt_eq, id_eq}
use Rattle.deneva_base.specs.Lists.{IsIn}
use Rattle.protocol_rules.specs.History.{Asked, waits}
use Rattle.txn_program.specs.Transactions.{numbers_below}
use Rattle.server_core.specs.declared.messages.Msg.{Msg}
use Rattle.server_core.specs.declared.messages.Msg.TheVariants.{Start, Ask, Granted, Refused, Prepare, Yes, No, Commit, Abort, Done, Undone}
use Rattle.server_core.specs.declared.messages.Mail.{Mail}
use Rattle.server_core.specs.declared.messages.Entry.{Entry}
use Rattle.server_core.specs.Setting.{Setting, home, homes, participants}
use Rattle.server_core.specs.Participant.{calls}
use Rattle.server_core.specs.Runs.{heard}
use Rattle.server_core.specs.Counts.{all_said, count, count_msgs}
use Rattle.server_core.specs.AttemptEnds.{attempt, done_turn, all_undone}
use Rattle.server_core.specs.Limits.{is_of, sum_of}
use Rattle.server_core.specs.Voting.{says, opening}

abbrev pub starts_of : Attempt → Msg → Bool
starts_of who (Start x) = attempt_eq x who
starts_of who m = false

abbrev pub starts_txn : TxnId → Msg → Bool
starts_txn x (Start who) = id_eq who.txn x
starts_txn x m = false

abbrev pub asking_of : Attempt → Msg → Bool
asking_of who (Ask x stamp key mode) = attempt_eq x who
asking_of who m = false

abbrev pub answering_of : Attempt → Msg → Bool
answering_of who (Granted x key row version bound) = attempt_eq x who
answering_of who (Refused x key cause) = attempt_eq x who
answering_of who m = false

abbrev pub prepares_of : Attempt → Msg → Bool
prepares_of who (Prepare x bound writes appends) = attempt_eq x who
prepares_of who m = false

abbrev pub votes_of : Attempt → ℕ → Msg → Bool
votes_of who q (Yes x part lo hi) = attempt_eq x who && part == q
votes_of who q (No x part cause) = attempt_eq x who && part == q
votes_of who q m = false

abbrev pub ends_of : Attempt → Msg → Bool
ends_of who (Commit x number) = attempt_eq x who
ends_of who (Abort x) = attempt_eq x who
ends_of who m = false

abbrev pub closes_of : Attempt → ℕ → Msg → Bool
closes_of who q (Done x part) = attempt_eq x who && part == q
closes_of who q (Undone x part) = attempt_eq x who && part == q
closes_of who q m = false

-- the mails of the opening, and all that the nodes said
abbrev pub all_mails : Setting → List Entry → List Mail
all_mails s H = opening s ++ flat_map (λ p. all_said (says s) p (heard p H)) (numbers_below s.parts)

-- a mail whose message passes was said, or is in the opening
abbrev pub was_said : Setting → List Entry → (Msg → Bool) → Bool
was_said s H t = list_any (λ x. t x.msg) (all_mails s H)

-- the partitions to which one was said
abbrev pub said_to : Setting → List Entry → (Msg → Bool) → List ℕ
said_to s H t = filter (λ q. list_any (λ x. t x.msg && x.to == q) (all_mails s H)) (numbers_below s.parts)

-- how many mails in flight pass, to whatever node
abbrev pub in_flight : List Mail → (Msg → Bool) → ℕ
in_flight flight t = count (λ x. t x.msg) flight

-- and to q
abbrev pub flying : List Mail → ℕ → (Msg → Bool) → ℕ
flying flight q t = count (λ x. t x.msg && x.to == q) flight

-- how many accesses of the attempt are among those that wait, and how many wait at all partitions
abbrev pub waiting_of : Attempt → List Asked → ℕ
waiting_of who [] = 0
waiting_of who (a ∷ as') = (if attempt_eq a.who who then 1 else 0) + waiting_of who as'

abbrev pub waiting : Setting → List Entry → Attempt → ℕ
waiting s H who = sum_of (λ q. waiting_of who (waits (calls s q (heard q H)))) (numbers_below s.parts)

-- its Start is in the opening or was said
abbrev pub begun : Setting → List Entry → Attempt → Bool
begun s H who = was_said s H (starts_of who)

-- a Prepare of it was said; a Commit or an Abort of it was said
abbrev pub prepared : Setting → List Entry → Attempt → Bool
prepared s H who = was_said s H (prepares_of who)

abbrev pub ending : Setting → List Entry → Attempt → Bool
ending s H who = was_said s H (ends_of who)

-- its home handled a Done or an Undone of it from the partition
abbrev pub has_replied : Setting → List Entry → Attempt → ℕ → Bool
has_replied s H who q = list_any (closes_of who q) (heard (home s who.txn) H)

-- a Commit or an Abort of it was said, and each partition to which that was said has replied
abbrev pub ended_everywhere : Setting → List Entry → Attempt → Bool
ended_everywhere s H who = ending s H who && list_all (has_replied s H who) (said_to s H (ends_of who))

abbrev pub some_of : Option Attempt → Bool
some_of None = false
some_of (Some who) = true

-- the transaction is decided or given up: all Done of one of its attempts came, or all Undone of the last that it may have
abbrev pub is_over : Setting → List Entry → TxnId → Bool
is_over s H x = some_of (done_turn s H x s.attempts) || all_undone s H (attempt x s.attempts)

-- an attempt of the transaction is begun, and it is neither decided nor given up
abbrev pub is_open : Setting → List Entry → TxnId → Bool
is_open s H x = was_said s H (starts_txn x) && not (is_over s H x)

-- no mail in flight, and it waits nowhere
pub record Idle (s : Setting) (H : List Entry) (flight : List Mail) (who : Attempt) : Type 0 where
  pub mails : in_flight flight (is_of who) ≡ 0
  pub waits : waiting s H who ≡ 0

-- exactly one of: its Start in flight, one Ask in flight, one Granted or Refused in flight, one access that waits at one
-- partition; and no other mail in flight
pub record Asks (s : Setting) (H : List Entry) (flight : List Mail) (who : Attempt) : Type 0 where
  pub one : in_flight flight (starts_of who) + in_flight flight (asking_of who) + in_flight flight (answering_of who) + waiting s H who ≡ 1
  pub mails : in_flight flight (is_of who) ≡ in_flight flight (starts_of who) + in_flight flight (asking_of who) + in_flight flight (answering_of who)

-- for each participant exactly one of: the Prepare in flight to it, its vote in flight to the home, its vote handled at the
-- home; not every vote was handled; no other mail in flight, and it waits nowhere
pub record Votes (s : Setting) (H : List Entry) (flight : List Mail) (who : Attempt) : Type 0 where
  pub one : (q : ℕ) → IsIn q (participants s who) → flying flight q (prepares_of who) + flying flight (home s who.txn) (votes_of who q) + count_msgs (votes_of who q) (heard (home s who.txn) H) ≡ 1
  pub some : (q : ℕ) × IsIn q (participants s who) × (count_msgs (votes_of who q) (heard (home s who.txn) H) ≡ 0)
  pub mails : in_flight flight (is_of who) ≡ sum_of (λ q. flying flight q (prepares_of who) + flying flight (home s who.txn) (votes_of who q)) (participants s who)
  pub waits : waiting s H who ≡ 0

-- for each partition to which the Commit or Abort was said exactly one of: that mail in flight to it, its Done or Undone in
-- flight to the home, that reply handled at the home; no other mail in flight, and it waits nowhere
pub record Closes (s : Setting) (H : List Entry) (flight : List Mail) (who : Attempt) : Type 0 where
  pub one : (q : ℕ) → IsIn q (said_to s H (ends_of who)) → flying flight q (ends_of who) + flying flight (home s who.txn) (closes_of who q) + count_msgs (closes_of who q) (heard (home s who.txn) H) ≡ 1
  pub mails : in_flight flight (is_of who) ≡ sum_of (λ q. flying flight q (ends_of who) + flying flight (home s who.txn) (closes_of who q)) (said_to s H (ends_of who))
  pub waits : waiting s H who ≡ 0

-- the begun attempts of a transaction have the turns from 1 up with none left out, and all but the one of the greatest turn
-- have ended everywhere; that one has not exactly where the transaction is open
pub record Turns (s : Setting) (H : List Entry) (x : TxnId) : Type 0 where
  pub from_one : (turn : ℕ) → begun s H (attempt x turn) ≡ true → 1 ≤ turn
  pub none_left_out : (turn earlier : ℕ) → begun s H (attempt x turn) ≡ true → 1 ≤ earlier → earlier < turn → begun s H (attempt x earlier) ≡ true
  pub earlier : (turn later : ℕ) → begun s H (attempt x turn) ≡ true → begun s H (attempt x later) ≡ true → turn < later → ended_everywhere s H (attempt x turn) ≡ true
  pub greatest : (turn : ℕ) → begun s H (attempt x turn) ≡ true → ((later : ℕ) → turn < later → begun s H (attempt x later) ≡ false) → not (ended_everywhere s H (attempt x turn)) ≡ is_open s H x

-- in a run after which these mails are in flight
pub record RunAccount (s : Setting) (H : List Entry) (flight : List Mail) : Type 0 where
  -- an attempt that is not begun, or has ended everywhere
  pub idle : (who : Attempt) → (begun s H who && not (ended_everywhere s H who)) ≡ false → Idle s H flight who
  -- one that is begun, and for which no Prepare, Commit or Abort was said
  pub asks : (who : Attempt) → begun s H who ≡ true → prepared s H who ≡ false → ending s H who ≡ false → Asks s H flight who
  -- one for which a Prepare was said, and no Commit or Abort
  pub votes : (who : Attempt) → prepared s H who ≡ true → ending s H who ≡ false → Votes s H flight who
  -- one for which a Commit or an Abort was said, and which has not ended everywhere
  pub closes : (who : Attempt) → ending s H who ≡ true → ended_everywhere s H who ≡ false → Closes s H flight who
  pub turns : (x : TxnId) → Turns s H x
  -- a node with a home transaction of which no attempt is begun has as many open home transactions as the limit says
  pub room : (p : ℕ) (x : TxnId) → IsIn x (homes s p) → was_said s H (starts_txn x) ≡ false → length (filter (is_open s H) (homes s p)) ≡ s.limit
