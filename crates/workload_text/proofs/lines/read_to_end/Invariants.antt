use Rattle.std.proofs.Common.{◌≡◌, ◌+◌, length}
use Rattle.workload_text.specs.Reader.{work_of}
use Rattle.workload_text.specs.Grammar as grammar
use Rattle.workload_text.proofs.lines.read_to_end.Given as goal

-- what is left is read on from the workload so far
abbrev pub invariant-loop-reading : goal.invariant-loop-reading
invariant-loop-reading l =
    record {
      head : l.reading.head ≡ l.fn.head;
      rest : grammar.prefix_on l.fn.head l.record_no l.records (work_of l.reading) ≡ grammar.prefix_on l.fn.head 2 l.fn.records (grammar.empty l.fn.head);
      place : l.record_no + length l.records ≡ length l.fn.records + 2;
    }

abbrev pub decreases-loop-reading : goal.decreases-loop-reading
decreases-loop-reading l = length l.records
