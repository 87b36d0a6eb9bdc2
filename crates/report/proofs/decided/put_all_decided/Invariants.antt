use Rattle.std.proofs.Common.{◌≡◌, ◌++◌, drop}
use Rattle.std.specs.List.{flat_map}
use Rattle.records.specs.Records.{text_of}
use Rattle.report.specs.ReportText.{decided_records}
use Rattle.report.proofs.decided.put_all_decided.Given as goal

-- the text so far, and that of what is left
abbrev pub invariant-loop-decided : goal.invariant-loop-decided
invariant-loop-decided l =
    l.text ++ flat_map (λ d. text_of (decided_records d)) (drop l.decided-index l.list) ≡ l.fn.text ++ flat_map (λ d. text_of (decided_records d)) l.list
