use Rattle.std.proofs.Common.{◌≡◌, drop, max}
use Rattle.deneva_base.specs.Lists.{greatest_by}
use Rattle.lock_control.specs.Locks.{bound_at}
use Rattle.lock_control.specs.Tables.{locks_at}
use Rattle.lock_control.proofs.lines.Lines.bound_over.Given as goal

-- the greatest so far with those that are left
abbrev pub invariant-loop-key : goal.invariant-loop-key
invariant-loop-key l = max l.bound (greatest_by (λ key. bound_at l.who (locks_at l.self key)) (drop l.key-index l.keys)) ≡ greatest_by (λ key. bound_at l.who (locks_at l.self key)) l.keys
