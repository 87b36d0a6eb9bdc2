use Rattle.std.proofs.Common.{◌≡◌, drop, None}
use Rattle.range_control.specs.Ends.{first_by, lower_before}
use Rattle.range_control.specs.Tables.{lower_at}
use Rattle.range_control.proofs.lines.Lines.lower_over.Given as goal

-- the best so far with those that are left
abbrev pub invariant-loop-key : goal.invariant-loop-key
invariant-loop-key l = first_by lower_before (lower_at l.self l.who l.writes) l.best (drop l.key-index l.keys) ≡ first_by lower_before (lower_at l.self l.who l.writes) None l.keys
