use Rattle.std.proofs.Common.{◌≡◌, ◌++◌, ◌∙◌, ◌+◌, ◌<◌, List, length, drop, slice_set, is_some, Option, Some, None, get_or, rules, arith, sym, ap}
use Rattle.std.specs.List.{flat_map}
use Rattle.std.proofs.lemmas.List.{get_or-set_same, get_or-set_other, get_or_read, length-set}
use Rattle.deneva_base.specs.declared.numbers.TxnId.{TxnId}
use Rattle.server_core.specs.CalvinScheduler.{as_far}
use Rattle.calvin_sched.specs.Batches.{ids_in}
use Rattle.calvin_sched.proofs.BatchSteps.{taken_step}
use Rattle.calvin_sched.proofs.batches.Batches.fresh_ids.Goals.{then-next-place, else-next-place+in-Some}
use Rattle.calvin_sched.proofs.batches.Batches.fresh_ids.Goals as goal

pub loop-next-preserved : goal.loop-next-preserved
loop-next-preserved c =
    let came : List (Option (List TxnId)) = c.args.self.now.came.items in
    let list : List (Option (List TxnId)) = slice_set came c.args.place (Some c.args.ids.now) in
    let i = c.loop-next.next in
    let less : i < length came = search rules in
    let within : i < length list = omega (arith, less, length-set came c.args.place (Some c.args.ids.now)) in
    let here : get_or list i None ≡ Some c.if-next-place.batch.now = elim c.if-next-place.branch [
      | then-next-place w ↦ ap (λ n. get_or list n None) w.if-next-place.true ∙ get_or-set_same came c.args.place (Some c.args.ids.now) None c.requires.place ∙ ap (λ b. Some b.now) (sym w.batch-is)
      | else-next-place+in-Some w ↦ get_or-set_other came c.args.place i (Some c.args.ids.now) None w.if-next-place.false ∙ sym (get_or_read came i c.index.result.now less c.index.ensures None) ∙ w.in-Some.is ∙ ap Some (sym w.as_slice-batch.ensures) ∙ ap (λ b. Some b.now) (sym w.batch-is)
    ] in
    ap (λ l. l ++ flat_map ids_in (as_far is_some (drop (i + 1) list))) c.in_ok-extend_from_slice.ensures.items
    ∙ taken_step list i c.loop-next.fresh.items c.if-next-place.batch.now within here
    ∙ c.loop-next.invariant
