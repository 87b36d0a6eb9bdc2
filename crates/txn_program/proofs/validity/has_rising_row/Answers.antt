use Rattle.std.proofs.Common.{rules, ◌∙◌}
use Rattle.std.proofs.lemmas.List.Sorted.{answers_always}
use Rattle.deneva_base.proofs.RowMaps.{searched}
use Rattle.txn_program.proofs.validity.has_rising_row.Goals as goal

-- the closure gives a row's key
pub returns : goal.returns
returns c =
    let facts = c.binary_search_by_key.ensures in
    let by_key = facts.position (λ r. r.key) (answers_always _ _ _ (λ f a r g called. search rules)) in
    c.is_ok.ensures.value ∙ searched c.args.rows.now c.args.key c.binary_search_by_key.result c.requires facts.bound by_key
