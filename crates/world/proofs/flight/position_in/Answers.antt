use Rattle.std.proofs.Common.{◌≡◌, ◌+◌, ◌<◌, ◌++◌, length, take, slice_get, length-append, refl, sym, ap, ◌∙◌, arith}
use Rattle.std.proofs.lemmas.Option.{slice_get_read, slice_get_within}
use Rattle.world.specs.Chunks.{joined}
use Rattle.world.proofs.First.{none_before}
use Rattle.world.proofs.Joined.{item_at, lies_here, append_cases, joined_one, short_front}
use Rattle.world.proofs.flight.position_in.Goals as goal

pub overflow_add-result : goal.overflow_add-result
overflow_add-result c =
    let chunks = c.args.chunks.now.items in
    let here = slice_get_read chunks (length chunks) c.loop-number.number c.index-chunk.result.now refl (omega arith) c.index-chunk.ensures in
    let found = c.in-Some.ensures.some in
    let short = short_front chunks c.loop-number.number c.index-chunk.result.now here in
    let within = slice_get_within c.index-chunk.result.now c.in-Some.place found.mail found.here in
    let count = c.loop-number.invariant.count in
    let few = c.requires in
    omega (arith, short, within, count, few)

pub returns-in-Some-clause-some : goal.returns-in-Some-clause-some
returns-in-Some-clause-some c =
    let chunks = c.args.chunks.now.items in
    let in_chunks : c.loop-number.number < length chunks = omega arith in
    let here = slice_get_read chunks (length chunks) c.loop-number.number c.index-chunk.result.now refl in_chunks c.index-chunk.ensures in
    let found = c.in-Some.ensures.some in
    let within = slice_get_within c.index-chunk.result.now c.in-Some.place found.mail found.here in
    let count = c.loop-number.invariant.count in
    let lies = lies_here chunks c.loop-number.number c.in-Some.place (c.loop-number.before + c.in-Some.place) c.index-chunk.result.now here within in_chunks (omega (arith, count)) in
    record {
      mail = found.mail;
      here = item_at chunks (c.loop-number.before + c.in-Some.place) c.loop-number.number c.in-Some.place lies c.index-chunk.result.now here ∙ found.here;
      gives = found.gives;
      first = λ before m less at given. none_before chunks c.loop-number.number c.index-chunk.result.now here c.args.entry.now c.in-Some.place within found.first c.loop-number.invariant.none before m (omega (arith, less, count)) at given;
    }

pub overflow_add-before : goal.overflow_add-before
overflow_add-before c =
    let chunks = c.args.chunks.now.items in
    let here = slice_get_read chunks (length chunks) c.loop-number.number c.index-chunk.result.now refl (omega arith) c.index-chunk.ensures in
    let short = short_front chunks c.loop-number.number c.index-chunk.result.now here in
    let len : c.len-before.result ≡ length c.index-chunk.result.now = c.len-before.ensures in
    let count = c.loop-number.invariant.count in
    let few = c.requires in
    omega (arith, short, len, count, few)

pub loop-number-preserved : goal.loop-number-preserved
loop-number-preserved c =
    let chunks = c.args.chunks.now.items in
    let i = c.loop-number.number in
    let chunk = c.index-chunk.result.now in
    let here = slice_get_read chunks (length chunks) i chunk refl (omega arith) c.index-chunk.ensures in
    let one : joined (take (i + 1) chunks) ≡ joined (take i chunks) ++ chunk = joined_one chunks i chunk here in
    let len = c.len-before.ensures in
    let count = c.loop-number.invariant.count in
    let sum = ap length one in
    record {
      count = omega (arith, len, count, sum, length-append (joined (take i chunks)) chunk);
      none = λ index m at given. append_cases (joined (take i chunks)) chunk index m (ap (λ l. slice_get l index) (sym one) ∙ at)
          (λ left. c.loop-number.invariant.none index m left given)
          (λ place right. c.in_default.ensures.none place m right given);
    }
