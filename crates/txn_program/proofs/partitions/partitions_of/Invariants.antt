use Rattle.std.proofs.Common.{◌≡◌, ◌==◌}
use Rattle.std.specs.List.{filter, list_any}
use Rattle.deneva_base.specs.Partitions.{partition_of}
use Rattle.txn_program.specs.Transactions.{numbers_below}
use Rattle.txn_program.proofs.partitions.partitions_of.Given as goal

-- those so far are found
abbrev pub invariant-loop-part : goal.invariant-loop-part
invariant-loop-part l = l.found ≡ filter (λ p. list_any (λ a. partition_of a.key l.parts == p) l.accesses) (numbers_below l.part)
