use Rattle.std.proofs.Common.{◌∙◌, List}
use Rattle.deneva_base.specs.declared.keys.Mode.TheVariants.{Read}
use Rattle.stamp_lines.specs.declared.lines.Waiter.{Waiter}
use Rattle.stamp_lines.specs.Tables.{line_at}
use Rattle.key_table.specs.Keys.{same_key}
use Rattle.key_table.proofs.Places.{same_tells, changed_step}
use Rattle.stamp_lines.specs.declared.requests.Request.{Request}
use Rattle.stamp_lines.specs.Requests.{granted}
use Rattle.stamp_lines.proofs.lines.Lines.wake_all.Goals as goal

pub loop-waiter-preserved : goal.loop-waiter-preserved
loop-waiter-preserved c other =
    let d : Waiter = record { who = record { txn = record { 0 = 0 }; turn = 0 }; stamp = 0; key = record { table = 0; a = 0; b = 0; c = 0 }; mode = Read } in
    changed_step same_key same_tells (λ (w : Waiter). w.key) (λ w (l : List Request). granted w.who l) c.args.waiters.now c.loop-waiter.waiter-index d (line_at c.loop-waiter.self) other (line_at c.wake.new.self other) c.loop-waiter-test.true (c.wake.ensures other)
    ∙ c.loop-waiter.invariant other
