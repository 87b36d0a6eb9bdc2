use Rattle.std.proofs.Common.{◌≡◌, drop, max}
use Rattle.deneva_base.specs.Lists.{greatest_by}
use Rattle.chain_control.specs.Tables.{stamp_in, chain_at}
use Rattle.chain_control.proofs.lines.Lines.stamp_over.Given as goal

-- the greatest so far with those that are left
abbrev pub invariant-loop-key : goal.invariant-loop-key
invariant-loop-key l = max l.stamp (greatest_by (λ key. stamp_in l.who (chain_at l.self key)) (drop l.key-index l.keys)) ≡ greatest_by (λ key. stamp_in l.who (chain_at l.self key)) l.keys
