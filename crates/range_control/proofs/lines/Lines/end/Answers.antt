use Rattle.std.proofs.Common.{rules, ap, ◌∙◌}
use Rattle.key_table.specs.Keys.{same_key}
use Rattle.key_table.proofs.Places.{sets_to}
use Rattle.range_control.specs.Accesses.{no_accesses, ended_in}
use Rattle.range_control.proofs.lines.Lines.end.Goals as goal

pub returns-in-Some : goal.returns-in-Some
returns-in-Some c =
    sets_to same_key no_accesses c.args.self.now.lines (c.get_mut.follows.lender c.end.new.self) c.args.key c.end.new.self _
    (c.end.ensures ∙ ap (ended_in c.args.who c.args.number) c.in-Some.ensures.value) (c.get_mut.follows.holds c.end.new.self (search rules))
