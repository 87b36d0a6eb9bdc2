use Rattle.std.proofs.Common.{◌≡◌, ◌++◌}
use Rattle.server_core.specs.Says.{opening_mails}
use Rattle.world.proofs.opening.first_flight.Given as goal

abbrev pub invariant-loop-mail : goal.invariant-loop-mail
invariant-loop-mail l = l.flight ++ l.mail-iterator.rest.items ≡ opening_mails l.fn.config l.fn.work
