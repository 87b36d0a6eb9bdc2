use Rattle.std.proofs.Common.{◌∙◌}
use Rattle.chain_control.specs.declared.requests.Waiter.{Waiter}
use Rattle.chain_control.specs.Tables.{waiter_key, wakes_at, chain_at}
use Rattle.key_table.specs.Keys.{same_key}
use Rattle.key_table.proofs.Places.{same_tells, changed_step}
use Rattle.chain_control.proofs.lines.Lines.wake_all.Goals as goal

pub loop-waiter-preserved : goal.loop-waiter-preserved
loop-waiter-preserved c other =
    let d : Waiter = record { who = record { txn = record { 0 = 0 }; turn = 0 }; stamp = 0; key = record { table = 0; a = 0; b = 0; c = 0 }; version = record { n = 0; id = record { 0 = 0 } } } in
    changed_step same_key same_tells waiter_key wakes_at c.args.waiters.now c.loop-waiter.waiter-index d (chain_at c.loop-waiter.self) other (chain_at c.wake.new.self other) c.loop-waiter-test.true (c.wake.ensures other)
    ∙ c.loop-waiter.invariant other
