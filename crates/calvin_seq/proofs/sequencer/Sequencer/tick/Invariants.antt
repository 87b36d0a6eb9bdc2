use Rattle.std.proofs.Common.{◌≡◌}
use Rattle.txn_program.specs.Transactions.{numbers_below}
use Rattle.calvin_seq.proofs.sequencer.Sequencer.tick.Given as goal

-- the nodes so far, and none is told yet
abbrev pub invariant-loop-node : goal.invariant-loop-node
invariant-loop-node l =
    record {
      told : l.nodes.items ≡ numbers_below l.node;
      said : l.out.mails ≡ l.fn.out.mails;
    }
