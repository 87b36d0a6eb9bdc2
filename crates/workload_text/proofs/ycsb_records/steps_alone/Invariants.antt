use Rattle.std.proofs.Common.{◌≡◌, ◌++◌, map}
use Rattle.workload_text.proofs.ycsb_records.steps_alone.Given as goal

-- the steps so far and those that are left
abbrev pub invariant-loop-one : goal.invariant-loop-one
invariant-loop-one l = l.steps ++ map (λ p. p.step) l.one-iterator.rest.items ≡ map (λ p. p.step) l.fn.placed
