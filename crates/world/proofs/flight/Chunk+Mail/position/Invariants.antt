use Rattle.std.proofs.Common.{◌≡◌, ℕ, ◌<◌, slice_get, Some}
use Rattle.server_core.specs.declared.messages.Mail.{Mail}
use Rattle.world.specs.Matches.{Gives}
use Rattle.world.proofs.flight.Chunk+Mail.position.Given as goal

-- none before gives the entry
abbrev pub invariant-loop-place : goal.invariant-loop-place
invariant-loop-place l = (place : ℕ) (m : Mail) → place < l.place → slice_get l.self place ≡ Some m → Gives m l.entry → ⊥
