use Rattle.std.proofs.Common.{List, ap, refl, subst, ◌∙◌, rules, map, sym}
use Rattle.std.specs.List.{IsDistinct}
use Rattle.std.proofs.lemmas.Fn.{always_returns_same}
use Rattle.deneva_base.specs.Keys.{key_eq}
use Rattle.deneva_base.specs.Rows.{row_of}
use Rattle.deneva_base.specs.declared.rows.Keyed.{Keyed}
use Rattle.deneva_base.proofs.SortedRows.{row_of-permuted, distinct-permuted, rise_from_sorted}
use Rattle.world.proofs.finishing.in_key_order.Goals as goal

pub returns-clause-order : goal.returns-clause-order
returns-clause-order c =
    let rows = c.into_vec-rows.result.items in
    let sorted = c.sort_by_key.new.self.items in
    let apart = subst (λ (l : List Keyed). IsDistinct key_eq (map (λ r. r.key) l)) (sym c.into_vec-rows.ensures) c.requires.distinct in
    rw c.of.ensures (rise_from_sorted sorted
    (c.in_ok-sort_by_key.ensures.sorted (λ r. r.key) (always_returns_same _ _ _ (λ a r f q. (search rules, refl))))
    (distinct-permuted rows sorted c.sort_by_key.ensures.permutation apart))

pub returns-clause-rows : goal.returns-clause-rows
returns-clause-rows c key =
    let rows = c.into_vec-rows.result.items in
    let sorted = c.sort_by_key.new.self.items in
    let apart = subst (λ (l : List Keyed). IsDistinct key_eq (map (λ r. r.key) l)) (sym c.into_vec-rows.ensures) c.requires.distinct in
    rw c.of.ensures (row_of-permuted rows sorted c.sort_by_key.ensures.permutation apart key ∙ ap (λ (l : List Keyed). row_of l key) c.into_vec-rows.ensures)
