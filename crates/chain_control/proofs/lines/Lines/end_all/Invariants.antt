use Rattle.std.proofs.Common.{◌≡◌, drop}
use Rattle.deneva_base.specs.declared.keys.Key.{Key}
use Rattle.key_table.specs.Keys.{same_key}
use Rattle.key_table.specs.Tables.{changed}
use Rattle.chain_control.specs.Tables.{key_of, ends_at, chain_at}
use Rattle.chain_control.proofs.lines.Lines.end_all.Given as goal

-- those that are left lead on to the end
abbrev pub invariant-loop-key : goal.invariant-loop-key
invariant-loop-key l = (other : Key) → changed same_key key_of (ends_at l.who) (drop l.key-index l.keys) other (chain_at l.self other) ≡ changed same_key key_of (ends_at l.who) l.keys other (chain_at l.fn.self other)
