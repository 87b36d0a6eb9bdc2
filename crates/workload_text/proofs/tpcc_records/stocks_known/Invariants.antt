use Rattle.std.proofs.Common.{◌≡◌, ◌+◌, ◌*◌, drop}
use Rattle.workload_text.specs.Reader.{work_of}
use Rattle.workload_text.specs.Tpcc.{stocks_known}
use Rattle.workload_text.proofs.tpcc_records.stocks_known.Given as goal

-- the lines so far have their stocks
abbrev pub invariant-loop-place : goal.invariant-loop-place
invariant-loop-place l = stocks_known (work_of l.reading) (5 + 3 * l.place) (drop l.place l.lines) ≡ stocks_known (work_of l.reading) 5 l.lines
