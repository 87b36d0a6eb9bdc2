use Rattle.std.proofs.Common.{ap, arith, rules, tests}
use Rattle.std.specs.Prelude.{option_map}
use Rattle.std.specs.Str.{bytes_eq}
use Rattle.std.proofs.lemmas.Iterator.Search.{find_from_yields_List}
use Rattle.deneva_top.specs.Options.{Given}
use Rattle.deneva_top.proofs.OptionPairs.{pairs_yield}
use Rattle.deneva_top.proofs.options.Options.value.Goals as goal

pub returns : goal.returns
returns c =
    let found = find_from_yields_List (λ g. bytes_eq g.0 c.args.name.now) c.find.new.self _ c.find.result c.find.ensures.ran (pairs_yield (record { 0 = c.self.inside.words })) (λ x b q k. search (rules, tests)) in
    let w = c.map.ensures in
    let v = ap (option_map (λ (g : Given). g.1)) found in
    grind (arith, v)
