use Rattle.std.proofs.Common.{◌≡◌, ◌++◌, map, drop}
use Rattle.records.specs.Records.{text_of}
use Rattle.report.specs.ReportText.{row_record}
use Rattle.report.proofs.rows.put_rows.Given as goal

-- the text so far, and that of what is left
abbrev pub invariant-loop-keyed : goal.invariant-loop-keyed
invariant-loop-keyed l = l.text ++ text_of (map (row_record l.word) (drop l.keyed-index l.rows)) ≡ l.fn.text ++ text_of (map (row_record l.word) l.rows)
