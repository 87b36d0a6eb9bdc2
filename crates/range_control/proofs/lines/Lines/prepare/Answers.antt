use Rattle.std.proofs.Common.{rules, ap, ◌∙◌}
use Rattle.key_table.specs.Keys.{same_key}
use Rattle.key_table.proofs.Places.{sets_to}
use Rattle.range_control.specs.Accesses.{no_accesses, prepared}
use Rattle.range_control.proofs.lines.Lines.prepare.Goals as goal

pub returns-in-Some : goal.returns-in-Some
returns-in-Some c =
    sets_to same_key no_accesses c.args.self.now.lines (c.get_mut.follows.lender c.prepare.new.self) c.args.key c.prepare.new.self _
    (c.prepare.ensures ∙ ap (prepared c.args.who c.args.window) c.in-Some.ensures.value) (c.get_mut.follows.holds c.prepare.new.self (search rules))
