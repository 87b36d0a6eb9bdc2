-- The stamps of a node: its counter, and the stamp that a Start gave.
use Rattle.std.specs.Prelude.{ℕ, suc, ◌+◌, ◌*◌, ◌/◌, max, List, [], ◌∷◌, not, ◌||◌, if◌then◌else◌, ◌==◌}
use Rattle.deneva_base.specs.declared.numbers.Attempt.{Attempt}
use Rattle.deneva_base.specs.Keys.{attempt_eq}
use Rattle.deneva_base.specs.declared.causes.Cause.{Cause}
use Rattle.deneva_base.specs.declared.causes.Cause.TheVariants.{Held, Younger, Written, ReadLater, EmptyRange, Apart, Trimmed}
use Rattle.server_core.specs.declared.messages.Msg.{Msg}
use Rattle.server_core.specs.declared.messages.Msg.TheVariants.{Start, Refused}
use Rattle.server_core.specs.Setting.{Setting}

-- a refusal that names a number raises the counter above it
abbrev pub raised : ℕ → ℕ → Cause → ℕ
raised parts n (Written key stamp) = max n (stamp / parts + 1)
raised parts n (ReadLater key stamp) = max n (stamp / parts + 1)
raised parts n (Trimmed key floor) = max n (floor / parts + 1)
raised parts n (Held key by) = n
raised parts n (Younger key by age) = n
raised parts n (EmptyRange lo k hi by) = n
raised parts n (Apart lo lp hi hp) = n

-- the counter of stamps: one more after each Start that takes a stamp
abbrev pub counter : Setting → List Msg → ℕ
counter s [] = 0
counter s (Start who ∷ ms) = if who.turn == 1 || not s.fixed then suc (counter s ms) else counter s ms
counter s (Refused who key cause ∷ ms) = raised s.parts (counter s ms) cause
counter s (m ∷ ms) = counter s ms

-- the attempt whose start gave the stamp
abbrev pub stamped : Setting → Attempt → Attempt
stamped s who = if s.fixed then record { txn = who.txn; turn = 1 } else who

abbrev pub stamp_from : Setting → ℕ → List Msg → Attempt → ℕ
stamp_from s p [] first = 0
stamp_from s p (Start x ∷ ms) first = if attempt_eq x first then counter s ms * s.parts + p + 1 else stamp_from s p ms first
stamp_from s p (m ∷ ms) first = stamp_from s p ms first
