use Rattle.std.proofs.Common.{◌≡◌, map, drop}
use Rattle.txn_program.specs.Valid.{are_distinct}
use Rattle.txn_program.proofs.validity.rows_are_apart.Given as goal

-- no row so far has a later one's key, so those that are left settle the answer
abbrev pub invariant-loop-index : goal.invariant-loop-index
invariant-loop-index l = are_distinct (map (λ r. r.key) (drop l.index l.rows)) ≡ are_distinct (map (λ r. r.key) l.rows)
