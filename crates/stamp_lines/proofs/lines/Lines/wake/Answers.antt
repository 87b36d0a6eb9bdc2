use Rattle.std.proofs.Common.{rules, [], ap, ◌∙◌}
use Rattle.key_table.specs.Keys.{same_key}
use Rattle.key_table.proofs.Places.{sets_to}
use Rattle.stamp_lines.specs.Requests.{granted}
use Rattle.stamp_lines.proofs.lines.Lines.wake.Goals as goal

pub returns-in-Some : goal.returns-in-Some
returns-in-Some c =
    sets_to same_key [] c.args.self.now.lines (c.get_mut.follows.lender c.wake.new.self) c.args.key c.wake.new.self _
    (c.wake.ensures ∙ ap (granted c.args.who) c.in-Some.ensures.value) (c.get_mut.follows.holds c.wake.new.self (search rules))
