use Rattle.std.proofs.Common.{◌≡◌, drop}
use Rattle.protocol_rules.specs.Latest.{row_for}
use Rattle.shelf.proofs.writing.find_row.Given as goal

-- none so far is of the key
abbrev pub invariant-loop-keyed : goal.invariant-loop-keyed
invariant-loop-keyed l = row_for l.key (drop l.keyed-index l.rows) ≡ row_for l.key l.rows
