use Rattle.std.proofs.Common.{◌≡◌, map, drop}
use Rattle.txn_program.specs.Transactions.{ycsb_key}
use Rattle.txn_program.specs.Valid.{are_distinct}
use Rattle.txn_program.proofs.validity.steps_are_apart.Given as goal

-- no step so far has a later one's key, so those that are left settle the answer
abbrev pub invariant-loop-index : goal.invariant-loop-index
invariant-loop-index l = are_distinct (map (λ step. ycsb_key step.key) (drop l.index l.steps)) ≡ are_distinct (map (λ step. ycsb_key step.key) l.steps)
