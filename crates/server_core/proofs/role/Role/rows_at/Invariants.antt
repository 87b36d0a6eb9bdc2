use Rattle.std.proofs.Common.{◌≡◌, take}
use Rattle.server_core.specs.Coordinator.{at_part}
use Rattle.server_core.proofs.role.Role.rows_at.Given as goal

-- those so far are found
abbrev pub invariant-loop-keyed : goal.invariant-loop-keyed
invariant-loop-keyed l = l.found ≡ at_part l.self.config.parts l.part (take l.keyed-index l.rows)
