use Rattle.std.proofs.Common.{◌∙◌, ap, sym, ◌&&◌}
use Rattle.std.specs.Prelude.{nat_lt}
use Rattle.tpcc_rules.specs.Items.{numbers_rise}
use Rattle.tpcc_rules.proofs.ItemNumbers.{numbers_rise-push}
use Rattle.tpcc_rules.proofs.items.is_above_last.Goals as goal

pub returns-in-Some : goal.returns-in-Some
returns-in-Some c x e =
    ap (λ n. numbers_rise c.args.items.now && nat_lt c.in-Some.last.now.number n) (sym e)
    ∙ numbers_rise-push c.args.items.now x c.in-Some.last.now c.in-Some.ensures.value
