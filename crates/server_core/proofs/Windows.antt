-- Ends of windows.
use Rattle.std.proofs.Common.{◌≤◌, ◌^◌, List, [], ◌∷◌, arith}
use Rattle.server_core.specs.Coordinator.{least_hi}
use Rattle.server_core.specs.declared.ballots.Ballot.{Ballot}

-- without a window nothing is above the least upper end
pub least_small : (bs : List Ballot) → least_hi bs ≤ 2 ^ 63
least_small [] = omega arith
least_small (b ∷ bs) = omega (arith, least_small bs)
