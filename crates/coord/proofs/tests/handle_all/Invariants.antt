use Rattle.std.proofs.Common.{List, drop}
use Rattle.server_core.specs.declared.messages.Msg.{Msg}
use Rattle.coord.specs.Standing.{Coordinates, role_of}
use Rattle.coord.specs.Trials.{FitInTurn}
use Rattle.coord.proofs.tests.handle_all.Given as goal

-- those that are left fit
abbrev pub invariant-loop-msg : goal.invariant-loop-msg
invariant-loop-msg l = (ms : List Msg) × (Coordinates l.coord ms × FitInTurn (role_of l.coord) ms (drop l.msg-index l.msgs))
