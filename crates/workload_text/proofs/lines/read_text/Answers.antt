use Rattle.std.proofs.lemmas.Result.{err_from_is_err_and}
use Rattle.records.specs.Records.{records_of}
use Rattle.workload_text.proofs.Onward.{whole_failed, whole_ended, whole_trailing}
use Rattle.workload_text.proofs.lines.read_text.Goals as goal

pub returns-in_err-ended : goal.returns-in_err-ended
returns-in_err-ended c =
    let p = err_from_is_err_and c.from_residual.result c.from_residual.ensures.1 in
    rw (p.1, p.2) (whole_failed c.new-records.result (records_of c.args.text.now) c.read_file.new.records _ c.new-records.ensures.records c.in_err-ended.ensures.answer)

pub returns-then-branch : goal.returns-then-branch
returns-then-branch c =
    let more = rw c.if-branch.true at c.in_ok-read.ensures.found in
    whole_trailing c.new-records.result (records_of c.args.text.now) c.read_file.new.records _ _ _ c.in_ok-ended.ended.record_no c.fault.result c.new-records.ensures.records
    c.in_ok-ended.ensures.answer more c.fault.ensures

pub returns : goal.returns
returns c =
    let none = rw c.if-branch.false at c.in_ok-read.ensures.found in
    whole_ended c.new-records.result (records_of c.args.text.now) c.read_file.new.records _ c.in_ok-work.work c.in_ok-ended.ended.record_no c.new-records.ensures.records
    c.in_ok-ended.ensures.answer none c.in_ok-work.ensures
