use Rattle.std.proofs.Common.{rules, tests, map}
use Rattle.std.specs.Str.{bytes_eq}
use Rattle.std.specs.List.{list_any}
use Rattle.std.proofs.lemmas.Iterator.Search.{all_from_yields_List}
use Rattle.deneva_top.proofs.OptionPairs.{pairs_yield}
use Rattle.deneva_top.proofs.options.are_known.Goals as goal

pub returns : goal.returns
returns c =
    all_from_yields_List (λ g. list_any (bytes_eq g.0) (map (λ n. n.now) c.args.names.now)) c.all.new.self _ _ c.all.ensures.ran (pairs_yield (record { 0 = c.args.words })) (λ x b q k. search (rules, tests))
