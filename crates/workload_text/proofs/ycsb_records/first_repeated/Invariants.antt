use Rattle.std.proofs.Common.{◌≡◌, ℕ, List, [], drop, eqb}
use Rattle.std.specs.List.{list_any}
use Rattle.std.specs.Ordering.{nat_cmp}
use Rattle.std.specs.BTreeSet.{contains}
use Rattle.workload_text.specs.Ycsb as ycsb
use Rattle.workload_text.proofs.ycsb_records.first_repeated.Given as goal

-- the set has the keys of the steps so far, and the first is among the steps that are left
abbrev pub invariant-loop-placed : goal.invariant-loop-placed
invariant-loop-placed l =
    (keys : List ℕ) × ((k : ℕ) → contains nat_cmp l.keys k ≡ list_any (λ key. eqb key k) keys) × (ycsb.first_repeated keys (drop l.placed-index l.steps) ≡ ycsb.first_repeated [] l.steps)
