use Rattle.std.proofs.Common.{◌∙◌}
use Rattle.deneva_base.specs.declared.keys.Key.{Key}
use Rattle.key_table.specs.Keys.{same_key}
use Rattle.key_table.proofs.Places.{same_tells, changed_step}
use Rattle.range_control.specs.Accesses.{ended_in}
use Rattle.range_control.specs.Tables.{accesses_at}
use Rattle.range_control.proofs.lines.Lines.end_all.Goals as goal

pub loop-key-preserved : goal.loop-key-preserved
loop-key-preserved c other =
    let d : Key = record { table = 0; a = 0; b = 0; c = 0 } in
    changed_step same_key same_tells (λ (k : Key). k) (λ k. ended_in c.args.who c.args.number) c.args.keys.now c.loop-key.key-index d (accesses_at c.loop-key.self) other (accesses_at c.end.new.self other) c.loop-key-test.true (c.end.ensures other)
    ∙ c.loop-key.invariant other
