use Rattle.std.proofs.Common.{◌≡◌, map, take}
use Rattle.run_outcomes.specs.Naming.{groups_of}
use Rattle.run_outcomes.proofs.groups.group.Given as goal

-- the groups of the entries so far
abbrev pub invariant-loop-entry : goal.invariant-loop-entry
invariant-loop-entry l = map (λ g. map (λ e. e.now) g.items) l.groups.items ≡ groups_of l.count (take l.entry-index l.history)
