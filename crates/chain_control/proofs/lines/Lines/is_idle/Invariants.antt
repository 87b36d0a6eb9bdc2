use Rattle.std.proofs.Common.{◌≡◌, drop}
use Rattle.chain_control.specs.Tables.{goers_over, no_one}
use Rattle.chain_control.proofs.lines.Lines.is_idle.Given as goal

-- those of the keys that are left lead to the same
abbrev pub invariant-loop-key : goal.invariant-loop-key
invariant-loop-key l = no_one (goers_over l.ended l.number l.rows l.self (drop l.key-index l.keys)) ≡ no_one (goers_over l.ended l.number l.rows l.self l.keys)
