use Rattle.std.proofs.Common.{◌≡◌, ◌∷◌, [], refl, rules}
use Rattle.deneva_base.specs.declared.rows.Keyed.{Keyed}
use Rattle.row_store.proofs.Callers.{distinct_from_rising}
use Rattle.row_store.proofs.tests.a_store_keeps_the_newest_rows.Goals as goal

pub begin-requires : goal.begin-requires
begin-requires g c =
    let first : Keyed = record { key = record { table = 0; a = 1; b = 0; c = 0 }; row = c.in_ok-old.old } in
    let second : Keyed = record { key = record { table = 0; a = 3; b = 0; c = 0 }; row = c.in_ok-old-2.old } in
    let rows : c.push-2.new.self ≡ first ∷ second ∷ [] = search rules in
    record { distinct = distinct_from_rising c.push-2.new.self (rw rows refl) }
