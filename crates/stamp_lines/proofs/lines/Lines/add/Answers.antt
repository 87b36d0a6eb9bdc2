use Rattle.std.proofs.Common.{rules, [], ap, ◌∙◌}
use Rattle.std.proofs.lemmas.Result.{on_ok_weaker, on_err_weaker}
use Rattle.key_table.specs.Keys.{same_key}
use Rattle.key_table.proofs.Places.{same_tells, sets_to, sets_same}
use Rattle.stamp_lines.specs.Requests.{put_request}
use Rattle.stamp_lines.proofs.lines.Lines.add.Goals as goal

pub returns-clause-ok : goal.returns-clause-ok
returns-clause-ok c =
    on_ok_weaker c.add.result (λ e. sets_to same_key [] c.args.self.now.lines (c.slot.follows.lender c.add.new.self) c.args.key c.add.new.self _
    (e ∙ ap (put_request c.args.request) c.in_ok-line.ensures.value) (c.slot.follows.holds c.add.new.self (search rules))) c.add.ensures.ok

pub returns-clause-err : goal.returns-clause-err
returns-clause-err c =
    on_err_weaker c.add.result (λ e. sets_same same_key same_tells [] c.args.self.now.lines (c.slot.follows.lender c.add.new.self) c.args.key c.add.new.self
    (e ∙ c.in_ok-line.ensures.value) (c.slot.follows.holds c.add.new.self (search rules))) c.add.ensures.err
