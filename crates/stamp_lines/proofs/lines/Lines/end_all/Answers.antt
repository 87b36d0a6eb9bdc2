use Rattle.std.proofs.Common.{◌∙◌, List}
use Rattle.deneva_base.specs.declared.keys.Key.{Key}
use Rattle.stamp_lines.specs.Tables.{line_at}
use Rattle.key_table.specs.Keys.{same_key}
use Rattle.key_table.proofs.Places.{same_tells, changed_step}
use Rattle.stamp_lines.specs.declared.requests.Request.{Request}
use Rattle.stamp_lines.specs.Requests.{without}
use Rattle.stamp_lines.proofs.lines.Lines.end_all.Goals as goal

pub loop-key-preserved : goal.loop-key-preserved
loop-key-preserved c other =
    let d : Key = record { table = 0; a = 0; b = 0; c = 0 } in
    changed_step same_key same_tells (λ (k : Key). k) (λ k (l : List Request). without c.args.who l) c.args.keys.now c.loop-key.key-index d (line_at c.loop-key.self) other (line_at c.end.new.self other) c.loop-key-test.true (c.end.ensures other)
    ∙ c.loop-key.invariant other
