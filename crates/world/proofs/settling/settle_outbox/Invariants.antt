use Rattle.std.proofs.Common.{◌≡◌, length, None}
use Rattle.world.specs.Worlds.{in_line}
use Rattle.world.proofs.settling.settle_outbox.Given as goal

abbrev pub invariant-loop-mail : goal.invariant-loop-mail
invariant-loop-mail l = record {
  none : l.held ≡ None;
  all : in_line l.flight None l.said.mails ≡ in_line l.fn.flight None l.fn.said.mails;
}

abbrev pub decreases-loop-mail : goal.decreases-loop-mail
decreases-loop-mail l = length l.said.mails
