use Rattle.std.proofs.Common.{◌≡◌, ◌++◌, map, drop}
use Rattle.records.specs.Records.{text_of}
use Rattle.report.specs.ReportText.{abort_record}
use Rattle.report.proofs.aborts.put_aborts.Given as goal

-- the text so far, and that of what is left
abbrev pub invariant-loop-abort : goal.invariant-loop-abort
invariant-loop-abort l = l.text ++ text_of (map abort_record (drop l.abort-index l.aborts)) ≡ l.fn.text ++ text_of (map abort_record l.aborts)
