use Rattle.std.proofs.Common.{◌≡◌, ◌≤◌, ◌+◌, ◌++◌, take, length}
use Rattle.server_core.specs.Coordinator.{to_all}
use Rattle.coord.specs.Endings.{message_of_ending}
use Rattle.coord.proofs.saying.say_to_all.Given as goal

-- those so far are said, and there is room for the rest
abbrev pub invariant-loop-participant : goal.invariant-loop-participant
invariant-loop-participant l =
    record {
      said : l.out.mails ≡ l.fn.out.mails ++ to_all l.from (message_of_ending l.who l.ending) (take l.participant-index l.participants);
      room : length l.participants ≤ l.out.spare + l.participant-index;
    }
