use Rattle.std.proofs.Common.{length, arith, rules}
use Rattle.std.proofs.lemmas.Option.{slice_get_read}
use Rattle.world.proofs.Joined.{one_on, some_left}
use Rattle.world.proofs.flight.find.Goals as goal

pub loop-place-preserved : goal.loop-place-preserved
loop-place-preserved g c =
    let chunks = c.args.chunks.now.items in
    let inv = c.loop-place.invariant in
    let here = slice_get_read chunks (length chunks) c.loop-place.chunk c.index.result.now (omega arith) (some_left chunks c.loop-place.chunk c.loop-place.place inv.inside) c.index.ensures in
    let step = one_on chunks c.loop-place.chunk c.loop-place.place c.args.index c.index.result.now here (search rules) inv.inside inv.sum in
    rw c.len-len.ensures (record { inside = step.0; sum = step.1 })
