use Rattle.std.proofs.Common.{slice_set, is_some, Some, refl, arith}
use Rattle.calvin_sched.proofs.BatchSteps.{as_far_split, as_far_set}
use Rattle.calvin_sched.proofs.batches.Batches.keep.Goals as goal

pub loop-self-init : goal.loop-self-init
loop-self-init c =
    let more = as_far_set c.args.self.now.came.items c.args.place c.args.ids in
    let list = slice_set c.args.self.now.came.items c.args.place (Some c.args.ids) in
    record { same = refl; counts = as_far_split is_some list c.args.self.now.taken (omega (arith, more, c.requires.taken)) }
