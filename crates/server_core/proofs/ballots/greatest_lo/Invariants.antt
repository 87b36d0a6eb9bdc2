use Rattle.std.proofs.Common.{◌≡◌, drop, max}
use Rattle.server_core.specs.Coordinator.{greatest_lo}
use Rattle.server_core.proofs.ballots.greatest_lo.Given as goal

-- the greatest so far with those that are left
abbrev pub invariant-loop-ballot : goal.invariant-loop-ballot
invariant-loop-ballot l = max l.greatest (greatest_lo (drop l.ballot-index l.ballots)) ≡ greatest_lo l.ballots
