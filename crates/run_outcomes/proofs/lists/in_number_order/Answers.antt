use Rattle.std.proofs.Common.{List, map, refl, subst, rules, ap, sym, ◌∙◌}
use Rattle.std.specs.List.{IsDistinct}
use Rattle.std.proofs.lemmas.Fn.{always_returns_same}
use Rattle.deneva_base.specs.Keys.{id_eq}
use Rattle.server_core.specs.Lines.{sort_lines}
use Rattle.server_core.specs.declared.outcomes.Decided.{Decided}
use Rattle.run_outcomes.proofs.NumberOrder.{sorts_agree}
use Rattle.run_outcomes.proofs.lists.in_number_order.Goals as goal

pub returns : goal.returns
returns c =
    let lines = c.into_vec-lines.result.items in
    let sorted = c.sort_by_key.new.self.items in
    let apart = subst (λ (l : List Decided). IsDistinct id_eq (map (λ l. l.number.id) l)) (sym c.into_vec-lines.ensures) c.requires in
    c.of.ensures
    ∙ sorts_agree lines sorted c.sort_by_key.ensures.permutation
    (c.in_ok-sort_by_key.ensures.sorted (λ l. l.number) (always_returns_same _ _ _ (λ a r f q. (search rules, refl)))) apart
    ∙ ap sort_lines c.into_vec-lines.ensures
