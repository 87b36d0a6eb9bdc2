use Rattle.std.proofs.Common.{◌≡◌, [], ◌∷◌, rules, subst, sym}
use Rattle.row_store.specs.Stores.{HaveDistinctKeys}
use Rattle.control_trials.proofs.TwoRows.{two_distinct}
use Rattle.control_trials.proofs.stores.two_rows.Goals as goal

pub begin-requires : goal.begin-requires
begin-requires c =
    let is : c.push-2.new.self ≡ c.in_ok-numbered.field-0 ∷ c.in_ok-numbered-2.field-0 ∷ [] = search rules in
    record { distinct = subst HaveDistinctKeys (sym is) (two_distinct c.in_ok-numbered.field-0 c.in_ok-numbered-2.field-0 c.in_ok-numbered.ensures c.in_ok-numbered-2.ensures) }
