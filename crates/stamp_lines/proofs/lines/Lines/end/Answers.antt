use Rattle.std.proofs.Common.{rules, [], ap, ◌∙◌}
use Rattle.key_table.specs.Keys.{same_key}
use Rattle.key_table.proofs.Places.{sets_to}
use Rattle.stamp_lines.specs.Requests.{without}
use Rattle.stamp_lines.proofs.lines.Lines.end.Goals as goal

pub returns-in-Some : goal.returns-in-Some
returns-in-Some c =
    sets_to same_key [] c.args.self.now.lines (c.get_mut.follows.lender c.end.new.self) c.args.key c.end.new.self _
    (c.end.ensures ∙ ap (without c.args.who) c.in-Some.ensures.value) (c.get_mut.follows.holds c.end.new.self (search rules))
