use Rattle.std.proofs.Common.{◌≡◌, ◌<◌, ◌==◌, ℕ, false, get_or, length, take}
use Rattle.std.specs.List.{list_any}
use Rattle.deneva_base.specs.Partitions.{partition_of}
use Rattle.txn_program.proofs.partitions.marks_of.Given as goal

-- the partitions of the accesses so far are marked
abbrev pub invariant-loop-access : goal.invariant-loop-access
invariant-loop-access l =
    record {
      size : length l.marks.items ≡ l.parts;
      marked : (p : ℕ) → p < l.parts → get_or l.marks.items p false ≡ list_any (λ a. partition_of a.key l.parts == p) (take l.access-index l.accesses);
    }
