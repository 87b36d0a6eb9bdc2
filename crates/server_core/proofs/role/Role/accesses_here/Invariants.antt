use Rattle.std.proofs.Common.{◌≡◌, take}
use Rattle.std.specs.List.{filter}
use Rattle.std.specs.Prelude.{eqb}
use Rattle.deneva_base.specs.Partitions.{partition_of}
use Rattle.server_core.proofs.role.Role.accesses_here.Given as goal

-- those so far are found
abbrev pub invariant-loop-access : goal.invariant-loop-access
invariant-loop-access l = l.here ≡ filter (λ a. eqb (partition_of a.key l.self.config.parts) l.self.part) (take l.access-index l.access-items)
