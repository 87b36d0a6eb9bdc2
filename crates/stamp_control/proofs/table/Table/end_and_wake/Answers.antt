use Rattle.std.proofs.Common.{◌≡◌, [], sym, subst, rules, List}
use Rattle.stamp_lines.specs.declared.lines.Waiter.{Waiter}
use Rattle.stamp_lines.specs.Tables.{part_of}
use Rattle.stamp_control.specs.Fronts.{front_over}
use Rattle.stamp_control.specs.Changes.{EndsAndWakes}
use Rattle.stamp_control.proofs.Idle.{nil_from_none}
use Rattle.stamp_control.proofs.table.Table.end_and_wake.Goals as goal

pub returns-then-is_idle-clause-ok : goal.returns-then-is_idle-clause-ok
returns-then-is_idle-clause-ok c =
    let none : front_over c.args.who c.args.self.now.accesses (part_of c.args.self.now.accesses c.args.who).keys ≡ [] = nil_from_none _ (search rules) in
    subst (λ (f : List Waiter). EndsAndWakes c.args.who c.args.number f c.args.self.now c.close.new.self) (sym none) c.close.ensures
