use Rattle.std.proofs.Common.{◌≡◌, map}
use Rattle.txn_program.specs.Transactions.{numbers_below}
use Rattle.server_core.specs.Calvin.{tick_mail}
use Rattle.server_core.proofs.openings.ticks_of_nodes.Given as goal

-- the mails of the nodes so far
abbrev pub invariant-loop-node : goal.invariant-loop-node
invariant-loop-node l = l.mails ≡ map (λ p. tick_mail p 0) (numbers_below l.node)
