use Rattle.std.proofs.Common.{◌∙◌}
use Rattle.deneva_base.specs.declared.keys.Key.{Key}
use Rattle.chain_control.specs.Tables.{key_of, ends_at, chain_at}
use Rattle.key_table.specs.Keys.{same_key}
use Rattle.key_table.proofs.Places.{same_tells, changed_step}
use Rattle.chain_control.proofs.lines.Lines.end_all.Goals as goal

pub loop-key-preserved : goal.loop-key-preserved
loop-key-preserved c other =
    let d : Key = record { table = 0; a = 0; b = 0; c = 0 } in
    changed_step same_key same_tells key_of (ends_at c.args.who) c.args.keys.now c.loop-key.key-index d (chain_at c.loop-key.self) other (chain_at c.end.new.self other) c.loop-key-test.true (c.end.ensures other)
    ∙ c.loop-key.invariant other
