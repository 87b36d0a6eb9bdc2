-- What an outcome has of each transaction.
use Rattle.std.specs.Prelude.{List, [], ◌∷◌, if◌then◌else◌}
use Rattle.deneva_base.specs.declared.numbers.TxnId.{TxnId}
use Rattle.server_core.specs.AttemptEnds.{attempt, all_undone, done_turn}
use Rattle.server_core.specs.Lines.{line_if}
use Rattle.server_core.specs.Setting.{Setting}
use Rattle.server_core.specs.declared.messages.Entry.{Entry}
use Rattle.server_core.specs.declared.outcomes.Decided.{Decided}
use Rattle.server_core.specs.declared.outcomes.Giveup.{Giveup}

abbrev pub giveups_for : Setting → List Entry → TxnId → List Giveup
giveups_for s H x = if all_undone s H (attempt x s.attempts) then record { id = x; turns = s.attempts } ∷ [] else []

abbrev pub lines_for : Setting → List Entry → TxnId → List Decided
lines_for s H x = line_if s H (done_turn s H x s.attempts)
