use Rattle.std.proofs.Common.{sym, ◌∙◌, rules, tests}
use Rattle.std.specs.Str.{bytes_eq}
use Rattle.std.proofs.lemmas.Iterator.{YieldsList-from_slice}
use Rattle.std.proofs.lemmas.Iterator.Search.{any_from_yields_List}
use Rattle.deneva_top.proofs.OptionPairs.{list_any-map}
use Rattle.deneva_top.proofs.options.is_among.Goals as goal

pub returns : goal.returns
returns c =
    any_from_yields_List (λ n. bytes_eq c.args.name.now n.now) _ _ _ c.any.ensures.ran (YieldsList-from_slice c.args.names.now cc) (λ x b q k. search (rules, tests))
    ∙ sym (list_any-map (bytes_eq c.args.name.now) (λ n. n.now) c.args.names.now)
