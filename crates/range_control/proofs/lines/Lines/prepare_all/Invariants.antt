use Rattle.std.proofs.Common.{◌≡◌, drop}
use Rattle.deneva_base.specs.declared.keys.Key.{Key}
use Rattle.range_control.specs.Tables.{all_changed, prepared_at, accesses_at}
use Rattle.range_control.proofs.lines.Lines.prepare_all.Given as goal

-- the keys that are left lead on to the end
abbrev pub invariant-loop-key : goal.invariant-loop-key
invariant-loop-key l = (other : Key) → all_changed (prepared_at l.who l.lo l.hi l.writes) (drop l.key-index l.keys) other (accesses_at l.self other) ≡ all_changed (prepared_at l.who l.lo l.hi l.writes) l.keys other (accesses_at l.fn.self other)
