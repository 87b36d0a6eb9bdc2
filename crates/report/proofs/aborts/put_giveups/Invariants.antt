use Rattle.std.proofs.Common.{◌≡◌, ◌++◌, map, drop}
use Rattle.records.specs.Records.{text_of}
use Rattle.report.specs.ReportText.{giveup_record}
use Rattle.report.proofs.aborts.put_giveups.Given as goal

-- the text so far, and that of what is left
abbrev pub invariant-loop-giveup : goal.invariant-loop-giveup
invariant-loop-giveup l = l.text ++ text_of (map giveup_record (drop l.giveup-index l.giveups)) ≡ l.fn.text ++ text_of (map giveup_record l.giveups)
