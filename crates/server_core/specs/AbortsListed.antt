-- Which attempts have an abort line.
use Rattle.std.specs.Prelude.{◌≡◌, List, length, filter, Bool, false, if◌then◌else◌}
use Rattle.deneva_base.specs.Keys.{attempt_eq}
use Rattle.deneva_base.specs.declared.numbers.Attempt.{Attempt}
use Rattle.server_core.specs.RunAccount.{was_said}
use Rattle.server_core.specs.Setting.{Setting}
use Rattle.server_core.specs.declared.messages.Entry.{Entry}
use Rattle.server_core.specs.declared.messages.Msg.{Msg}
use Rattle.server_core.specs.declared.messages.Msg.TheVariants.{Abort}
use Rattle.server_core.specs.declared.outcomes.AbortLine.{AbortLine}

abbrev pub aborts : Attempt → Msg → Bool
aborts who (Abort x) = attempt_eq x who
aborts who m = false

-- the lines of one attempt
abbrev pub lines_of : Attempt → List AbortLine → List AbortLine
lines_of who ls = filter (λ l. attempt_eq l.who who) ls

-- each attempt of which an Abort was said has exactly one line, and no other attempt has any
abbrev pub ListsAborts : Setting → List Entry → List AbortLine → Type 0
ListsAborts s H ls = (who : Attempt) → length (lines_of who ls) ≡ (if was_said s H (aborts who) then 1 else 0)
