use Rattle.std.proofs.Common.{◌≡◌}
use Rattle.deneva_base.specs.declared.keys.Key.{Key}
use Rattle.key_table.specs.Keys.{same_key}
use Rattle.key_table.specs.Tables.{changed}
use Rattle.chain_control.specs.Tables.{row_key, commits_at, chain_at}
use Rattle.chain_control.proofs.lines.Lines.commit_all.Given as goal

-- those that are left lead on to the end
abbrev pub invariant-loop-key : goal.invariant-loop-key
invariant-loop-key l = (other : Key) → changed same_key row_key (commits_at l.keep l.who l.number) l.key-iterator.rest.items other (chain_at l.self other) ≡ changed same_key row_key (commits_at l.keep l.who l.number) l.fn.rows other (chain_at l.fn.self other)
