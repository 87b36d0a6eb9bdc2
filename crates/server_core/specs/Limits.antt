-- How long a run is at most, and how its numbers grow.
use Rattle.std.specs.Prelude.{⊤, ℕ, ◌+◌, ◌*◌, ◌^◌, ◌<◌, ◌≤◌, List, [], ◌∷◌, length, Bool, false, if◌then◌else◌}
use Rattle.deneva_base.specs.declared.numbers.TxnId.{TxnId}
use Rattle.deneva_base.specs.declared.numbers.Attempt.{Attempt}
use Rattle.deneva_base.specs.Keys.{attempt_eq}
use Rattle.server_core.specs.declared.messages.Msg.{Msg}
use Rattle.server_core.specs.declared.messages.Msg.TheVariants.{Start, Ask, Granted, Refused, Prepare, Yes, No, Commit, Abort, Done, Undone, Finished}
use Rattle.server_core.specs.declared.messages.Entry.{Entry}
use Rattle.server_core.specs.Setting.{Setting, partitions_of}
use Rattle.protocol_rules.specs.Growth.{CauseUnder, Grows}

-- the messages of an attempt
abbrev pub is_of : Attempt → Msg → Bool
is_of who (Start x) = attempt_eq x who
is_of who (Ask x stamp key mode) = attempt_eq x who
is_of who (Granted x key row version bound) = attempt_eq x who
is_of who (Refused x key cause) = attempt_eq x who
is_of who (Prepare x bound writes appends) = attempt_eq x who
is_of who (Yes x part lo hi) = attempt_eq x who
is_of who (No x part cause) = attempt_eq x who
is_of who (Commit x number) = attempt_eq x who
is_of who (Abort x) = attempt_eq x who
is_of who (Done x part) = attempt_eq x who
is_of who (Undone x part) = attempt_eq x who
is_of who m = false

abbrev pub count_entries : (Entry → Bool) → List Entry → ℕ
count_entries t [] = 0
count_entries t (e ∷ H) = (if t e then 1 else 0) + count_entries t H

-- an attempt's entries are at most so many
abbrev pub most_of : Setting → TxnId → ℕ
most_of s x = 1 + 2 * length (s.accesses x) + 4 * length (partitions_of s.parts (s.accesses x))

abbrev pub sum_of : {A : Type 0} → (A → ℕ) → List A → ℕ
sum_of f [] = 0
sum_of f (x ∷ xs) = f x + sum_of f xs

abbrev pub most_events : Setting → ℕ
most_events s = sum_of (λ x. s.attempts * most_of s x) s.ids

-- the limits of workload and configuration
pub record Limits (s : Setting) : Type 0 where
  pub span : ℕ
  pub grows : Grows s.rule span
  pub short : most_events s < 2 ^ 32
  pub small : most_events s * (span + 2 * s.parts) < 2 ^ 48

-- the numbers of a message up to b
abbrev pub MsgUnder : ℕ → Msg → Type 0
MsgUnder b (Ask who stamp key mode) = stamp ≤ b
MsgUnder b (Granted who key row version bound) = (version.n ≤ b) × (bound ≤ b)
MsgUnder b (Refused who key cause) = CauseUnder b cause
MsgUnder b (Prepare who bound writes appends) = bound.n ≤ b
MsgUnder b (Yes who part lo hi) = lo ≤ b
MsgUnder b (No who part cause) = CauseUnder b cause
MsgUnder b (Commit who number) = number.n ≤ b
MsgUnder b (Finished id part number) = number.n ≤ b
MsgUnder b m = ⊤
