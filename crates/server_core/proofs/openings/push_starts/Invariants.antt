use Rattle.std.proofs.Common.{◌≡◌, ◌++◌, ◌+◌, drop, filter, eqb}
use Rattle.txn_program.specs.Serial.{ids_from}
use Rattle.server_core.specs.Setting.{setting, home, homes, take_first}
use Rattle.server_core.specs.Voting.{first_starts}
use Rattle.server_core.proofs.openings.push_starts.Given as goal

-- the mails so far, and those of the home transactions that are left, as far as there is room
abbrev pub invariant-loop-place : goal.invariant-loop-place
invariant-loop-place l =
    l.mails ++ first_starts l.node (take_first l.room (filter (λ x. eqb (home (setting l.config l.work) x) l.node) (ids_from (l.place + 1) (drop l.place l.work.programs))))
    ≡ l.initial.mails ++ first_starts l.node (take_first l.config.limit (homes (setting l.config l.work) l.node))
