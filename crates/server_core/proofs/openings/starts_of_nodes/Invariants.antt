use Rattle.std.proofs.Common.{◌≡◌}
use Rattle.std.specs.List.{flat_map}
use Rattle.txn_program.specs.Transactions.{numbers_below}
use Rattle.server_core.specs.Setting.{setting, homes, take_first}
use Rattle.server_core.specs.Voting.{first_starts}
use Rattle.server_core.proofs.openings.starts_of_nodes.Given as goal

-- the mails of the nodes so far
abbrev pub invariant-loop-node : goal.invariant-loop-node
invariant-loop-node l = l.mails ≡ flat_map (λ p. first_starts p (take_first l.config.limit (homes (setting l.config l.work) p))) (numbers_below l.node)
