use Rattle.std.proofs.Common.{◌<◌, length, arith}
use Rattle.deneva_top.proofs.Ids.{ids_more}
use Rattle.deneva_top.proofs.calls.ids_of.Goals as goal

pub loop-place-preserved : goal.loop-place-preserved
loop-place-preserved c =
    let len = c.len-place-end.ensures.len in
    let inside : c.loop-place.place < length c.args.work.now.programs = omega (arith, len, c.loop-place-test.true) in
    ids_more c.args.work.now.programs c.loop-place.place _ _ _ inside c.in_ok-push.ensures.ok c.loop-place.invariant
