use Rattle.std.proofs.Common.{◌≡◌, [], map}
use Rattle.run_outcomes.specs.Naming.{groups_of}
use Rattle.run_outcomes.proofs.groups.empty_groups.Given as goal

-- so many groups without an entry
abbrev pub invariant-loop : goal.invariant-loop
invariant-loop l = map (λ g. map (λ e. e.now) g.items) l.groups.items ≡ groups_of l.counter []
