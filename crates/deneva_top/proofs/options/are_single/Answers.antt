use Rattle.std.proofs.Common.{sym, ◌∙◌, map, rules, tests, string_bytes}
use Rattle.std.specs.Prelude.{nat_le}
use Rattle.std.proofs.lemmas.Iterator.{YieldsList-from_slice}
use Rattle.std.proofs.lemmas.Iterator.Search.{all_from_yields_List}
use Rattle.std.proofs.lemmas.List.Folds.{list_all-map}
use Rattle.deneva_top.specs.Options.{pairs_of, times}
use Rattle.deneva_top.proofs.options.are_single.Goals as goal

pub returns : goal.returns
returns c =
    all_from_yields_List (λ n. nat_le (times n.now (pairs_of (map string_bytes c.args.words.now))) 1) _ _ _ c.all.ensures.ran (YieldsList-from_slice c.args.names.now cc) (λ x b q k. search (rules, tests))
    ∙ sym (list_all-map (λ name. nat_le (times name (pairs_of (map string_bytes c.args.words.now))) 1) (λ n. n.now) c.args.names.now)
