use Rattle.std.proofs.Common.{◌≡◌, reverse, refl, ap, ◌∙◌}
use Rattle.std.proofs.lemmas.List.{reverse-reverse}
use Rattle.run_trials.proofs.runs.resumed_history.Goals as goal

pub resume-requires : goal.resume-requires
resume-requires g c lifetimes =
    let world = c.loop.world in
    let inv = c.loop.invariant in
    let stopped = c.stop-nodes.ensures in
    let entries : reverse c.stop-nodes.result.history ≡ world.progress.entries = ap reverse stopped.history ∙ reverse-reverse world.progress.entries in
    let run = rw (inv.config, inv.work, ← entries) at stopped.run.run in
    let nodes = rw (inv.config, inv.work) at stopped.nodes in
    ((refl, tt), (c.requires.config, (c.requires.valid, (c.requires.protocol, ((world.progress.flight, run), nodes)))))
