use Rattle.std.proofs.Common.{List, [], reverse, refl, sym, ap, ◌∙◌, subst}
use Rattle.server_core.specs.Picks.{Progress}
use Rattle.world.specs.Worlds.{Seen, HasNodes, seen, in_line}
use Rattle.world.proofs.Replaying.{run_of, same_nodes}
use Rattle.world.proofs.world.World.resume.Goals as goal

pub replay-requires : goal.replay-requires
replay-requires g c =
    let w = c.in_ok-world.world in
    let is = c.in_ok-world.ensures in
    let run = run_of w.config c.args.config w.work c.args.work.now (reverse c.as_slice.result.now) (reverse c.args.history) c.requires.run.0 is.config is.work (ap reverse c.as_slice.ensures) c.requires.run.1 in
    λ lifetimes. ((refl, tt), (ap (λ (p : Progress). p.entries) is.progress, (c.requires.run.0, run)))

pub invariant_of-world : goal.invariant_of-world
invariant_of-world g c =
    let inside = c.world.inside in
    let v = seen inside.config inside.work.now inside.history.items (in_line inside.flight inside.held inside.said.mails) in
    let w = seen c.args.config c.args.work.now c.args.history [] in
    let first = c.in_ok-world.ensures in
    let then = c.in_ok-replay.ensures in
    let nodes = subst (λ (l : List g.row.S.Denot). HasNodes g.S.Handles.role g.S.Handles.stands l w) (sym c.into_vec.ensures) c.requires.nodes in (
      c.world.invariant.0,
      same_nodes g.S.Handles.role g.S.Handles.stands c.into_vec.result.items w v nodes
          (sym (ap (λ (x : Seen). x.config) c.world.view_is ∙ then.config ∙ first.config))
          (sym (ap (λ (x : Seen). x.work) c.world.view_is ∙ then.work ∙ first.work))
          (sym (ap (λ (x : Seen). x.progress.entries) c.world.view_is ∙ then.entries ∙ ap reverse c.as_slice.ensures)),
    )
