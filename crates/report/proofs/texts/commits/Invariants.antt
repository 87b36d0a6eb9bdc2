use Rattle.std.proofs.Common.{◌≡◌, ◌+◌, drop}
use Rattle.report.specs.ReportText.{commits}
use Rattle.report.proofs.texts.commits.Given as goal

-- those counted, and those left
abbrev pub invariant-loop-decided : goal.invariant-loop-decided
invariant-loop-decided l = l.count + commits (drop l.decided-index l.list) ≡ commits l.list
