use Rattle.std.proofs.Common.{◌≡◌, ◌+◌, ◌-◌, ◌/◌, length, Some, refl, rules}
use Rattle.std.specs.Prelude.{slice_get}
use Rattle.std.proofs.lemmas.Option.{slice_get_read}
use Rattle.tpcc_rules.proofs.NameOrder.{middle_is}
use Rattle.tpcc_rules.proofs.names.Namesakes.middle.Goals as goal

pub returns : goal.returns
returns c =
    let xs = c.named-named.result.now in
    let place : c.saturating_sub-place.result ≡ (length c.named-named.result.now + 1) / 2 - 1 = search rules in
    let got : slice_get c.named-named.result.now c.saturating_sub-place.result ≡ Some c.in_ok-row.row.now = slice_get_read _ _ _ _ refl c.in_ok-row.ensures.lookup.3.0 c.in_ok-row.ensures.lookup.1 in
    middle_is (λ r. r.now) xs c.args.self.now c.args.w c.args.d c.args.last.now c.saturating_sub-place.result c.in_ok-row.row.now c.named-named.ensures place got
