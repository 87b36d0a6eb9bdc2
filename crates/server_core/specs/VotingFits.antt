-- Which message of a voting protocol fits the messages that a node has handled, by its kind.
use Rattle.std.specs.Prelude.{◌≡◌, ◌⊎◌, ⊤, ℕ, zero, suc, ◌<◌, ◌≤◌, List, [], ◌∷◌, length, slice_get, true, false, Some, None, ◌==◌}
use Rattle.std.specs.List.{list_any}
use Rattle.deneva_base.specs.declared.keys.Key.{Key}
use Rattle.deneva_base.specs.declared.numbers.Attempt.{Attempt}
use Rattle.deneva_base.specs.declared.keys.Mode.{Mode}
use Rattle.deneva_base.specs.declared.keys.Mode.TheVariants.{Put}
use Rattle.deneva_base.specs.declared.numbers.Number.{Number}
use Rattle.deneva_base.specs.Lists.{IsIn}
use Rattle.deneva_base.specs.Rows.{Row}
use Rattle.deneva_base.specs.Modes.{IsReading}
use Rattle.deneva_base.specs.declared.rows.Keyed.{Keyed}
use Rattle.protocol_rules.specs.Conditions.{MayAsk, MayPrepare, MayCommit, MayAbort}
use Rattle.server_core.specs.declared.messages.Msg.{Msg}
use Rattle.server_core.specs.declared.messages.Msg.TheVariants.{Start, Ask, Granted, Refused, Prepare, Yes, No, Commit, Abort, Done, Undone, Tick, Batch, Rows, Finished}
use Rattle.server_core.specs.Setting.{Setting, home, loaded_at, participants}
use Rattle.server_core.specs.Received.{grants_for, votes_for, refused_for, closes_for, started_for, all_voted, all_closed}
use Rattle.server_core.specs.declared.ballots.Ballot.{Ballot}
use Rattle.deneva_base.specs.Partitions.{partition_of}
use Rattle.server_core.specs.Coordinator.{told, first_no, decision}
use Rattle.server_core.specs.Participant.{calls}

abbrev pub earlier_turn : Attempt → Attempt
earlier_turn who = record { txn = who.txn; turn = before who.turn }
  where
    before : ℕ → ℕ
    before zero = zero
    before (suc n) = n

abbrev pub IsStarted : List Msg → Attempt → Type 0
IsStarted ms who = started_for who ms ≡ true

-- the home has all grants, or waits for one more
abbrev pub HasAll : Setting → List Msg → Attempt → Type 0
HasAll s ms who = IsStarted ms who × (refused_for who ms ≡ false) × (length (grants_for who ms) ≡ length (s.accesses who.txn))

abbrev pub IsAsking : Setting → List Msg → Attempt → Key → Mode → Type 0
IsAsking s ms who key mode = IsStarted ms who × (refused_for who ms ≡ false) × (slice_get (s.accesses who.txn) (length (grants_for who ms)) ≡ Some (record { key = key; mode = mode }))

abbrev pub Polled : Setting → List Msg → Attempt → Type 0
Polled s ms who = HasAll s ms who × (all_voted (votes_for who ms) (participants s who) ≡ true)

abbrev pub Decides : Setting → List Msg → Attempt → Msg → Type 0
Decides s ms who m = Polled s ms who × (decision who (votes_for who ms) (first_no None (votes_for who ms)) ≡ m)

abbrev pub HasVoted : List Msg → Attempt → ℕ → Type 0
HasVoted ms who part = list_any (λ (b : Ballot). b.part == part) (votes_for who ms) ≡ true

abbrev pub IsAborted : Setting → List Msg → Attempt → Type 0
IsAborted s ms who = (refused_for who ms ≡ true) ⊎ Decides s ms who (Abort who)

-- the attempt was aborted, and all its Undone came
abbrev pub AllUndone : Setting → List Msg → Attempt → Type 0
AllUndone s ms who = IsAborted s ms who × (all_closed (closes_for who ms) (told s ms who) ≡ true)

-- a granted row has no cells for a Put, and is well formed for any other access
abbrev pub FineRow : Setting → Attempt → Key → Row → Type 0
FineRow s who key row = (mode : Mode) → IsIn (record { key = key; mode = mode }) (s.accesses who.txn) → (IsReading mode → s.fine key row ≡ true) × (mode ≡ Put → row ≡ [])

-- the row of the message's kind
abbrev pub Suits : Setting → ℕ → ℕ → Msg → List Msg → Type 0
Suits s p f (Start who) ms =
    (f ≡ p) × (p ≡ home s who.txn) × (IsStarted ms who → ⊥) × (((who.turn ≡ 1) × ((turn : ℕ) → IsStarted ms (record { txn = who.txn; turn = turn }) → ⊥)) ⊎ ((1 < who.turn) × (who.turn ≤ s.attempts) × AllUndone s ms (earlier_turn who))) × IsIn who.txn s.ids
Suits s p f (Ask who stamp key mode) ms = (f ≡ home s who.txn) × (partition_of key s.parts ≡ p) × IsIn (record { key = key; mode = mode }) (s.accesses who.txn) × MayAsk (loaded_at s p) (calls s p ms) who stamp key × IsIn who.txn s.ids
Suits s p f (Granted who key row version bound) ms = (p ≡ home s who.txn) × (f ≡ partition_of key s.parts) × ((mode : Mode) × IsAsking s ms who key mode) × FineRow s who key row
Suits s p f (Refused who key cause) ms = (p ≡ home s who.txn) × (f ≡ partition_of key s.parts) × ((mode : Mode) × IsAsking s ms who key mode)
Suits s p f (Prepare who bound writes appends) ms =
    (f ≡ home s who.txn) × MayPrepare (calls s p ms) who bound writes appends × ((w : Keyed) → IsIn w writes → s.fine w.key w.row ≡ true) × ((w : Keyed) → IsIn w appends → (partition_of w.key s.parts ≡ p) × (s.fine w.key w.row ≡ true))
Suits s p f (Yes who part lo hi) ms = (p ≡ home s who.txn) × (f ≡ part) × IsIn part (participants s who) × HasAll s ms who × (HasVoted ms who part → ⊥)
Suits s p f (No who part cause) ms = (p ≡ home s who.txn) × (f ≡ part) × IsIn part (participants s who) × HasAll s ms who × (HasVoted ms who part → ⊥)
Suits s p f (Commit who number) ms = (f ≡ home s who.txn) × MayCommit (calls s p ms) who number
Suits s p f (Abort who) ms = (f ≡ home s who.txn) × MayAbort (calls s p ms) who
Suits s p f (Done who part) ms =
    (p ≡ home s who.txn) × (f ≡ part) × IsIn part (participants s who) × (IsIn part (closes_for who ms) → ⊥) × ((number : Number) × Decides s ms who (Commit who number))
Suits s p f (Undone who part) ms = (p ≡ home s who.txn) × (f ≡ part) × IsIn part (told s ms who) × (IsIn part (closes_for who ms) → ⊥) × IsAborted s ms who
Suits s p f (Tick epoch) ms = ⊥
Suits s p f (Batch epoch seq ids) ms = ⊥
Suits s p f (Rows id part rows) ms = ⊥
Suits s p f (Finished id part number) ms = ⊥

-- each message fitted the list before it
abbrev pub AllFit : Setting → ℕ → List Msg → Type 0
AllFit s p [] = ⊤
AllFit s p (m ∷ ms) = ((f : ℕ) × Suits s p f m ms) × AllFit s p ms
