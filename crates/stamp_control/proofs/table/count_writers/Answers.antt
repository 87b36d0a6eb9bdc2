use Rattle.std.proofs.Common.{rules, ◌≡◌, ◌∙◌, sym}
use Rattle.std.specs.Prelude.{count_by}
use Rattle.deneva_base.specs.Modes.{writes}
use Rattle.stamp_lines.specs.declared.requests.Request.{Request}
use Rattle.stamp_control.proofs.Counting.{writers_count}
use Rattle.stamp_control.proofs.table.count_writers.Goals as goal

pub returns-clause-count : goal.returns-clause-count
returns-clause-count c =
    let e : c.count.result ≡ count_by (λ (r : Request). writes r.mode) c.args.requests.now = search rules in
    e ∙ sym (writers_count c.args.requests.now)
