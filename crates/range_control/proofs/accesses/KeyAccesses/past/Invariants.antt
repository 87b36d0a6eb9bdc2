use Rattle.std.proofs.Common.{◌≡◌, drop, max}
use Rattle.deneva_base.specs.Lists.{greatest_by}
use Rattle.range_control.specs.Accesses.{past_window, past_over}
use Rattle.range_control.proofs.accesses.KeyAccesses.past.Given as goal

-- the greatest so far with those that are left
abbrev pub invariant-loop-held : goal.invariant-loop-held
invariant-loop-held l = max l.past (greatest_by (λ a. past_window a.window) (drop l.held-index l.self.held)) ≡ past_over l.self
