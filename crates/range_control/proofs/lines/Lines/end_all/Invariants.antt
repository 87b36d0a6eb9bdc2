use Rattle.std.proofs.Common.{◌≡◌, drop}
use Rattle.deneva_base.specs.declared.keys.Key.{Key}
use Rattle.range_control.specs.Accesses.{ended_in}
use Rattle.range_control.specs.Tables.{all_changed, accesses_at}
use Rattle.range_control.proofs.lines.Lines.end_all.Given as goal

-- the keys that are left lead on to the end
abbrev pub invariant-loop-key : goal.invariant-loop-key
invariant-loop-key l = (other : Key) → all_changed (λ key. ended_in l.who l.number) (drop l.key-index l.keys) other (accesses_at l.self other) ≡ all_changed (λ key. ended_in l.who l.number) l.keys other (accesses_at l.fn.self other)
