use Rattle.std.proofs.Common.{◌≡◌, ap, length, map, string_bytes, inl, arith}
use Rattle.std.proofs.lemmas.List.{length-map}
use Rattle.deneva_top.proofs.OptionPairs.{left, fewer_pairs}
use Rattle.deneva_top.proofs.options.times.Goals as goal

pub count-requires-clause-fits : goal.count-requires-clause-fits
count-requires-clause-fits c =
    let e : left c.filter.result.iter ≡ left (record { 0 = c.args.words }) = ap left c.filter.ensures.source in
    let few = fewer_pairs (map string_bytes c.args.words.now) in
    let same = length-map c.args.words.now string_bytes in
    let same_pairs = ap length e in
    inl (omega arith)
