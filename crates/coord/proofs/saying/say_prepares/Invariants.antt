use Rattle.std.proofs.Common.{◌≡◌, take, map}
use Rattle.server_core.specs.Coordinator.{prepare_to}
use Rattle.server_core.specs.Roles.{setting_of}
use Rattle.coord.proofs.saying.say_prepares.Given as goal

-- those so far are made, and none is said yet
abbrev pub invariant-loop-participant : goal.invariant-loop-participant
invariant-loop-participant l =
    record {
      made : l.mails ≡ map (prepare_to (setting_of l.role) l.role.part l.who l.bound l.effect) (take l.participant-index l.participants);
      said : l.out.mails ≡ l.fn.out.mails;
    }
