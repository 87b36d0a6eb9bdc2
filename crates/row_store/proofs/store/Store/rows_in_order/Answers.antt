use Rattle.std.proofs.Common.{◌≡◌, rules, sym, ap, refl, subst, ◌∙◌, option_map}
use Rattle.std.proofs.lemmas.Fn.{always_returns_same}
use Rattle.row_store.specs.Stores.{HaveDistinctKeys, row_in}
use Rattle.row_store.proofs.Tables.{get_key}
use Rattle.deneva_base.proofs.SortedRows.{row_of-permuted, distinct-permuted, rise_from_sorted}
use Rattle.row_store.proofs.InOrder.{rows_of, rows_more, row_of-rows_of, distinct_rows_of}
use Rattle.row_store.proofs.store.Store.rows_in_order.Goals as goal

pub loop-key-init : goal.loop-key-init
loop-key-init c = search rules

pub loop-key-preserved : goal.loop-key-preserved
loop-key-preserved c =
    rows_more c.loop-key.rows.items c.push.new.self.items c.loop-key.key-iterator c.next.new.self (c.in-Some.key.now, c.in-Some.version.now) c.in_ok-row.row (rows_of c.self.inside.versions.entries)
    c.in-Some.ensures.steps c.in_ok-row.ensures c.in_ok-push.ensures.items c.loop-key.invariant

pub returns-clause-order : goal.returns-clause-order
returns-clause-order c =
    let all : c.loop-key.rows.items ≡ rows_of c.self.inside.versions.entries = search rules in
    let apart = subst HaveDistinctKeys (sym all) (distinct_rows_of c.self.inside.versions.entries c.len.ensures.unique) in
    rw c.of.ensures (rise_from_sorted c.sort_by_key.new.self.items
    (c.in_ok-sort_by_key.ensures.sorted (λ r. r.key) (always_returns_same _ _ _ (λ a r f q. (search rules, refl))))
    (distinct-permuted c.loop-key.rows.items c.sort_by_key.new.self.items c.sort_by_key.ensures.permutation apart))

pub returns-clause-rows : goal.returns-clause-rows
returns-clause-rows c key =
    let all : c.loop-key.rows.items ≡ rows_of c.self.inside.versions.entries = search rules in
    let es = c.self.inside.versions.entries in
    let apart = subst HaveDistinctKeys (sym all) (distinct_rows_of es c.len.ensures.unique) in
    rw c.of.ensures (row_of-permuted c.loop-key.rows.items c.sort_by_key.new.self.items c.sort_by_key.ensures.permutation apart key ∙ rw all (row_of-rows_of es key)
    ∙ ap (option_map (λ v. v.row)) (sym (get_key es key)) ∙ ap (λ s. row_in s key) c.self.view_is)
