use Rattle.deneva_base.specs.declared.keys.Key.{Key}
use Rattle.stamp_lines.specs.Tables.{requests_at}
use Rattle.stamp_control.specs.Pasts.{Trims, past_at}
use Rattle.stamp_control.proofs.pasts.Pasts.trim_all.Given as goal

-- at most what nobody would read is gone
abbrev pub invariant-loop-key : goal.invariant-loop-key
invariant-loop-key l = (key : Key) → Trims (requests_at l.accesses key) (past_at l.fn.self key) (past_at l.self key)
