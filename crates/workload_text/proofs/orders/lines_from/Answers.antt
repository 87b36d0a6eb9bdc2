use Rattle.std.proofs.Common.{◌∙◌, map, sym, rules}
use Rattle.workload_text.proofs.LineByLine.{line_failed, line_read}
use Rattle.workload_text.proofs.orders.lines_from.Goals as goal

pub returns-in_err-line : goal.returns-in_err-line
returns-in_err-line c =
    rw (sym c.loop-place.invariant ∙ line_failed c.args.count c.loop-place.place (map (λ f. f.now) c.args.fields.now) c.loop-place.lines c.in_err-line.field-0.0 c.loop-place-test.true (sym c.in_err-line.ensures)) (search rules)

pub loop-place-preserved : goal.loop-place-preserved
loop-place-preserved c =
    rw c.in_ok-push.ensures.ok (line_read c.args.count c.loop-place.place (map (λ f. f.now) c.args.fields.now) c.loop-place.lines c.in_ok-line.line c.loop-place-test.true (sym c.in_ok-line.ensures) ∙ c.loop-place.invariant)
