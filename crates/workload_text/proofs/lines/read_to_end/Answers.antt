use Rattle.std.proofs.Common.{◌∙◌, ap, arith, length, refl, sym}
use Rattle.csv.specs.Records.{fields_of}
use Rattle.workload_text.specs.Reader.{work_of}
use Rattle.workload_text.specs.Grammar as grammar
use Rattle.workload_text.proofs.Onward.{more_read, end_read, failed_read}
use Rattle.workload_text.proofs.lines.read_to_end.Goals as goal

pub loop-reading-init : goal.loop-reading-init
loop-reading-init c =
    record {
      head = c.new-reading.ensures.head;
      rest = ap (grammar.prefix_on c.args.head 2 c.args.records.now) c.new-reading.ensures.work;
      place = omega arith;
    }

pub returns-then-not-branch-clause-answer : goal.returns-then-not-branch-clause-answer
returns-then-not-branch-clause-answer c =
    let none = rw c.if-not-branch.true at c.in_ok-read.ensures.found in
    sym c.loop-reading.invariant.rest
    ∙ ap (λ l. grammar.prefix_on c.args.head c.loop-reading.record_no l (work_of c.loop-reading.reading)) none
    ∙ rw c.fault.ensures refl

pub overflow_add-record_no : goal.overflow_add-record_no
overflow_add-record_no c = omega (arith, c.loop-reading.invariant.place, c.requires.bound)

pub loop-reading-smaller : goal.loop-reading-smaller
loop-reading-smaller c =
    let next = rw c.if-not-branch.false at c.in_ok-read.ensures.found in
    omega (arith, ap length next)

pub loop-reading-preserved : goal.loop-reading-preserved
loop-reading-preserved c =
    let inv = c.loop-reading.invariant in
    let next = rw c.if-not-branch.false at c.in_ok-read.ensures.found in
    record {
      head = c.in-Ok-More.ensures.head ∙ inv.head;
      rest = more_read c.args.head _ c.loop-reading.record_no _ _ (fields_of c.read.new.row) (work_of c.loop-reading.reading) _ _ inv.head next _ c.in-Ok-More.field-0-is c.in-Ok-More.ensures.said inv.rest;
      place = omega (arith, inv.place, ap length next);
    }

pub returns-in-Ok-Ended-clause-answer : goal.returns-in-Ok-Ended-clause-answer
returns-in-Ok-Ended-clause-answer c =
    let inv = c.loop-reading.invariant in
    let next = rw c.if-not-branch.false at c.in_ok-read.ensures.found in
    end_read c.args.head _ c.loop-reading.record_no _ _ (fields_of c.read.new.row) (work_of c.loop-reading.reading) _ _ inv.head next _ c.in-Ok-Ended.field-0-is c.in-Ok-Ended.ensures.said inv.rest

pub returns-in-Ok-Ended-clause-place : goal.returns-in-Ok-Ended-clause-place
returns-in-Ok-Ended-clause-place c =
    let next = rw c.if-not-branch.false at c.in_ok-read.ensures.found in
    omega (arith, c.loop-reading.invariant.place, ap length next)

pub returns-in-Err-clause-answer : goal.returns-in-Err-clause-answer
returns-in-Err-clause-answer c =
    let inv = c.loop-reading.invariant in
    let next = rw c.if-not-branch.false at c.in_ok-read.ensures.found in
    failed_read c.args.head _ c.loop-reading.record_no _ _ c.read.new.self (fields_of c.read.new.row) (work_of c.loop-reading.reading) _ _ c.at_record.result inv.head next c.at_record.ensures c.in-Err.ensures.said inv.rest
