use Rattle.std.proofs.Common.{◌≡◌, map, take}
use Rattle.run_outcomes.specs.Finishing.{gathered}
use Rattle.run_outcomes.proofs.ordered.rows_read.Given as goal

-- the rows of the accesses so far
abbrev pub invariant-loop-access : goal.invariant-loop-access
invariant-loop-access l = l.reads ≡ gathered l.role.config.parts (map (λ m. m.now) l.messages) l.id (take l.access-index l.accesses)
