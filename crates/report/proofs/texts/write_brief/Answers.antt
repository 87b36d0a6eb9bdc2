use Rattle.std.proofs.Common.{◌≡◌, ◌-◌, length, rules, arith, append_assoc}
use Rattle.report.specs.ReportText.{commits, rollbacks}
use Rattle.report.proofs.Counts.{commits-and-rollbacks}
use Rattle.report.proofs.texts.write_brief.Goals as goal

pub returns : goal.returns
returns c =
    let list = c.args.outcome.now.decided in
    let rest : length list - commits list ≡ rollbacks list = omega (arith, commits-and-rollbacks list) in
    search (rules, append_assoc, rest)
