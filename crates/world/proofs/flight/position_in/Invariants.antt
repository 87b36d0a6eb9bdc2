use Rattle.std.proofs.Common.{◌≡◌, ℕ, length, take, slice_get, Some}
use Rattle.server_core.specs.declared.messages.Mail.{Mail}
use Rattle.world.specs.Chunks.{joined}
use Rattle.world.specs.Matches.{Gives}
use Rattle.world.proofs.flight.position_in.Given as goal

-- none in the chunks before gives the entry
abbrev pub invariant-loop-number : goal.invariant-loop-number
invariant-loop-number l = record {
  count : l.before ≡ length (joined (take l.number l.chunks.items));
  none : (index : ℕ) (m : Mail) → slice_get (joined (take l.number l.chunks.items)) index ≡ Some m → Gives m l.entry → ⊥;
}
