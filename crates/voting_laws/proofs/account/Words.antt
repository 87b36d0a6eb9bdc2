-- The ledger of an attempt: what is in flight for it, waits, or was handled at its home.
use Rattle.std.specs.Prelude.{◌≡◌, ℕ, ◌+◌, ◌<◌, ◌≤◌, List, [], ◌∷◌, length, filter, slice_get, Bool, true, false, cond, not, ◌&&◌, ◌||◌, eqb, Option, Some, None}
use Rattle.std.specs.List.{list_any}
use Rattle.deneva_base.specs.declared.numbers.TxnId.{TxnId}
use Rattle.deneva_base.specs.declared.keys.Key.{Key}
use Rattle.deneva_base.specs.declared.numbers.Attempt.{Attempt}
use Rattle.deneva_base.specs.Keys.{attempt_eq, key_eq}
use Rattle.protocol_rules.specs.History.{Asked, waits}
use Rattle.server_core.specs.declared.messages.Msg.{Msg}
use Rattle.server_core.specs.declared.messages.Msg.TheVariants.{Ask, Granted, Refused}
use Rattle.server_core.specs.declared.messages.Mail.{Mail}
use Rattle.server_core.specs.declared.messages.Entry.{Entry}
use Rattle.server_core.specs.Setting.{Setting, home, homes, participants}
use Rattle.deneva_base.specs.declared.keys.Access.{Access}
use Rattle.deneva_base.specs.Partitions.{partition_of}
use Rattle.server_core.specs.Received.{grants_for, votes_for, refused_for, started_for, all_voted}
use Rattle.server_core.specs.Coordinator.{asked_partitions}
use Rattle.server_core.specs.Participant.{calls}
use Rattle.server_core.specs.VotingFits.{AllUndone}
use Rattle.server_core.specs.Runs.{heard}
use Rattle.server_core.specs.Counts.{count_msgs}
use Rattle.server_core.specs.RunAccount.{starts_of, prepares_of, votes_of, ends_of, closes_of, flying, is_over}
use Rattle.server_core.specs.AttemptEnds.{attempt, all_done, all_undone}

abbrev pub asks_of : Attempt → Key → Msg → Bool
asks_of who key (Ask x stamp k mode) = attempt_eq x who && key_eq k key
asks_of who key m = false

abbrev pub answers_of : Attempt → Key → Msg → Bool
answers_of who key (Granted x k row version bound) = attempt_eq x who && key_eq k key
answers_of who key (Refused x k cause) = attempt_eq x who && key_eq k key
answers_of who key m = false

-- how often an access waits
abbrev pub waiting_for : Attempt → Key → List Asked → ℕ
waiting_for who key [] = 0
waiting_for who key (a ∷ as') = cond (attempt_eq a.who who && key_eq a.key key) 1 0 + waiting_for who key as'

abbrev pub is_for : Key → Option Access → ℕ
is_for key None = 0
is_for key (Some a) = cond (key_eq a.key key) 1 0

abbrev pub many : ℕ → List ℕ → ℕ
many q [] = 0
many q (x ∷ xs) = cond (eqb x q) 1 0 + many q xs

-- the attempt's Start is in flight, or its home handled it
abbrev pub has_begun : Setting → List Entry → List Mail → Attempt → Bool
has_begun s H flight who = started_for who (heard (home s who.txn) H) || list_any (λ m. starts_of who m.msg) flight

-- ms is what the attempt's home handled
pub record Accounts (s : Setting) (H : List Entry) (flight : List Mail) (who : Attempt) (ms : List Msg) : Type 0 where
  -- its Start is in flight or was handled at most once, in all
  pub starts : flying flight (home s who.txn) (starts_of who) + count_msgs (starts_of who) ms ≤ 1
  -- for the key awaited one of: the Ask in flight, the access waits, the answer in flight; for any other key none
  pub accesses : (key : Key) → flying flight (partition_of key s.parts) (asks_of who key) + waiting_for who key (waits (calls s (partition_of key s.parts) (heard (partition_of key s.parts) H))) + flying flight (home s who.txn) (answers_of who key) ≡ cond (started_for who ms && not (refused_for who ms)) (is_for key (slice_get (s.accesses who.txn) (length (grants_for who ms)))) 0
  -- once all is granted, for each participant one of: the Prepare in flight, the vote in flight, the vote handled
  pub votes : (q : ℕ) → flying flight q (prepares_of who) + flying flight (home s who.txn) (votes_of who q) + count_msgs (votes_of who q) ms ≡ cond (eqb (length (grants_for who ms)) (length (s.accesses who.txn))) (many q (participants s who)) 0
  -- once it was refused or all have voted, for each partition told one of: the Commit or Abort in flight, the reply in flight, the reply handled
  pub ends : (q : ℕ) → flying flight q (ends_of who) + flying flight (home s who.txn) (closes_of who q) + count_msgs (closes_of who q) ms ≡ cond (refused_for who ms) (many q (asked_partitions s ms who)) 0 + cond (all_voted (votes_for who ms) (participants s who)) (many q (participants s who)) 0
  -- a later turn begins after all earlier ones were undone
  pub turns : (turn : ℕ) → 1 ≤ turn → turn < who.turn → has_begun s H flight who ≡ true → AllUndone s ms (record { txn = who.txn; turn = turn })

-- a Commit or an Abort of the attempt was said, and its home handled the Done or the Undone from every partition to which
-- that was said
abbrev pub has_ended : Setting → List Entry → Attempt → Bool
has_ended s H who = all_done s H who || all_undone s H who

-- the first attempt of the transaction has begun
abbrev pub is_begun : Setting → List Entry → List Mail → TxnId → Bool
is_begun s H flight x = has_begun s H flight (attempt x 1)

-- the open transactions of the node: begun, and neither decided nor given up
abbrev pub open_at : Setting → List Entry → List Mail → ℕ → List TxnId
open_at s H flight p = filter (λ x. is_begun s H flight x && not (is_over s H x)) (homes s p)
