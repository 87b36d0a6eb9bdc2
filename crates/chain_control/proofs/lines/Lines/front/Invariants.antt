use Rattle.std.proofs.Common.{◌≡◌, ◌++◌, drop}
use Rattle.chain_control.specs.Tables.{goers_over}
use Rattle.chain_control.proofs.lines.Lines.front.Given as goal

-- those of the keys so far, and of those that are left
abbrev pub invariant-loop-key : goal.invariant-loop-key
invariant-loop-key l = l.front.items ++ goers_over l.ended l.number l.rows l.self (drop l.key-index l.keys) ≡ goers_over l.ended l.number l.rows l.self l.keys
