use Rattle.std.proofs.Common.{◌≡◌, ◌∙◌, ◌<◌, ap, pos, true, arith, rules, to_z, of_z}
use Rattle.std.specs.Int.{w64}
use Rattle.tpcc_rules.specs.Columns.{fits_all, number_at}
use Rattle.tpcc_rules.specs.Effects.{raised, whole}
use Rattle.tpcc_rules.specs.Tables.{columns}
use Rattle.tpcc_rules.proofs.OrderRows.{next_small}
use Rattle.tpcc_rules.proofs.orders.next_number.Goals as goal

pub overflow_cast-result : goal.overflow_cast-result
overflow_cast-result c =
    let district = c.args.district.now in
    let made : (c.in-Some.cells ≡ raised 3 (pos 1) district) × (fits_all (columns 2) c.in-Some.cells ≡ true) = rw c.in-Some.is at c.in_ok-cells.ensures in
    let fits : fits_all (columns 2) (raised 3 (pos 1) district) ≡ true = rw made.0 at made.1 in
    let same : to_z w64 (of_z w64 c.number_at.result) ≡ c.number_at.result = search rules in
    let number : c.whole_of-number.result ≡ whole (number_at district 3) = c.whole_of-number.ensures.whole ∙ ap whole (same ∙ c.number_at.ensures) in
    let small = next_small district fits in
    omega (arith, number, small)

pub returns : goal.returns
returns c =
    let district = c.args.district.now in
    let made : (c.in-Some.cells ≡ raised 3 (pos 1) district) × (fits_all (columns 2) c.in-Some.cells ≡ true) = rw c.in-Some.is at c.in_ok-cells.ensures in
    let fits : fits_all (columns 2) (raised 3 (pos 1) district) ≡ true = rw made.0 at made.1 in
    let same : to_z w64 (of_z w64 c.number_at.result) ≡ c.number_at.result = search rules in
    let number : c.whole_of-number.result ≡ whole (number_at district 3) = c.whole_of-number.ensures.whole ∙ ap whole (same ∙ c.number_at.ensures) in
    let small = next_small district fits in
    (number, omega (arith, number, small), made.0, made.1)
