use Rattle.std.proofs.Common.{◌≡◌, drop}
use Rattle.deneva_base.specs.declared.keys.Key.{Key}
use Rattle.stamp_lines.specs.Tables.{all_ended, line_at}
use Rattle.stamp_lines.proofs.lines.Lines.end_all.Given as goal

-- the keys that are left lead on to the end
abbrev pub invariant-loop-key : goal.invariant-loop-key
invariant-loop-key l = (other : Key) → all_ended l.who (drop l.key-index l.keys) other (line_at l.self other) ≡ all_ended l.who l.keys other (line_at l.fn.self other)
