use Rattle.std.proofs.Common.{Bor, rules}
use Rattle.std.proofs.lemmas.List.Sorted.{answers_always}
use Rattle.deneva_base.specs.declared.rows.Keyed.{Keyed}
use Rattle.tpcc_rules.proofs.NameOrder.{name_before, weak_by, sorted_rows, rows_sorted, customers_alone, same_numbers}
use Rattle.tpcc_rules.proofs.names.Namesakes.of.Goals as goal

pub invariant_of-result : goal.invariant_of-result
invariant_of-result c =
    let before = λ (x y : Bor Keyed). name_before x.now y.now in
    let compares = answers_always _ _ _ (λ f a r q k. search rules) in
    let up = c.in_ok-sort_by.ensures.sorted before (weak_by (λ r. r.now)) compares in
    let stable = c.in_ok-sort_by.ensures.stable before (weak_by (λ r. r.now)) compares in
    let all = sorted_rows (λ r. r.now) c.args.rows.now c.in_ok-sorted.sorted.items c.sort_by.new.self.items c.in_ok-sorted.ensures up stable in
    (rows_sorted (λ r. r.now) c.sort_by.new.self.items up, customers_alone c.args.rows.now _ all)

pub returns : goal.returns
returns c =
    let before = λ (x y : Bor Keyed). name_before x.now y.now in
    let compares = answers_always _ _ _ (λ f a r q k. search rules) in
    let up = c.in_ok-sort_by.ensures.sorted before (weak_by (λ r. r.now)) compares in
    let stable = c.in_ok-sort_by.ensures.stable before (weak_by (λ r. r.now)) compares in
    let all = sorted_rows (λ r. r.now) c.args.rows.now c.in_ok-sorted.sorted.items c.sort_by.new.self.items c.in_ok-sorted.ensures up stable in
    same_numbers c.args.rows.now _ all
