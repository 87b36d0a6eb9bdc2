use Rattle.std.proofs.Common.{◌≡◌, ℕ, ◌+◌, ◌-◌, ◌≤◌, ◌++◌, map, drop, length, Ok}
use Rattle.workload_text.specs.Gives.{◌>>=◌}
use Rattle.workload_text.specs.Ycsb.{steps_from}
use Rattle.workload_text.proofs.steps.steps_of.Given as goal

-- the steps so far, and those of the fields that are left, with most turns enough for these
abbrev pub invariant-loop-at : goal.invariant-loop-at
invariant-loop-at l =
    (most : ℕ) × (length l.txn ≤ most + l.at) × (l.at ≤ length l.txn)
    × ((steps_from l.head most (l.at + 1) (map (λ f. f.now) (drop l.at l.txn)) >>= λ more. Ok (l.steps ++ more)) ≡ steps_from l.head (length l.txn) 2 (map (λ f. f.now) (drop 1 l.txn)))

abbrev pub decreases-loop-at : goal.decreases-loop-at
decreases-loop-at l = length l.txn - l.at
