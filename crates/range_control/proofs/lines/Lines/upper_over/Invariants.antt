use Rattle.std.proofs.Common.{◌≡◌, drop, None}
use Rattle.range_control.specs.Ends.{first_by, upper_before}
use Rattle.range_control.specs.Tables.{upper_at}
use Rattle.range_control.proofs.lines.Lines.upper_over.Given as goal

-- the best so far with those that are left
abbrev pub invariant-loop-key : goal.invariant-loop-key
invariant-loop-key l = first_by upper_before (upper_at l.self l.who) l.best (drop l.key-index l.keys) ≡ first_by upper_before (upper_at l.self l.who) None l.keys
