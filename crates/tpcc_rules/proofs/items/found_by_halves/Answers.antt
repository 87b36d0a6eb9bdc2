use Rattle.std.proofs.Common.{rules}
use Rattle.std.proofs.lemmas.List.Sorted.{answers_always}
use Rattle.tpcc_rules.proofs.ItemNumbers.{found_by_halves, not_found_by_halves}
use Rattle.tpcc_rules.proofs.items.found_by_halves.Goals as goal

-- the closure gives an item's number
pub returns-in-Ok : goal.returns-in-Ok
returns-in-Ok c =
    found_by_halves c.args.items.now c.args.number c.in-Ok.index _ c.requires c.in-Ok.ensures.bound
    (c.in-Ok.ensures.position (λ i. i.number) (answers_always _ _ _ (λ f a r g called. search rules)))

pub returns-in-Err : goal.returns-in-Err
returns-in-Err c =
    not_found_by_halves c.args.items.now c.args.number c.in-Err.field-0 c.requires
    (c.in-Err.ensures.position (λ i. i.number) (answers_always _ _ _ (λ f a r g called. search rules)))
