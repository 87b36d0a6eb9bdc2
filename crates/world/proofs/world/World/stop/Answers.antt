use Rattle.std.proofs.Common.{List, [], reverse, sym, ap, subst}
use Rattle.world.specs.Worlds.{Seen, HasNodes, seen, in_line}
use Rattle.world.proofs.Replaying.{same_nodes}
use Rattle.world.proofs.world.World.stop.Goals as goal

pub returns-clause-nodes : goal.returns-clause-nodes
returns-clause-nodes g c =
    let was = c.self.inside in
    let v = seen was.config was.work.now was.history.items (in_line was.flight was.held was.said.mails) in
    let w = seen c.args.self.config c.args.self.work c.of-2.result [] in
    let nodes = subst (λ (l : List g.row.S.Denot). HasNodes g.S.Handles.role g.S.Handles.stands l v) (sym c.of.ensures) c.self.invariant.1 in
    same_nodes g.S.Handles.role g.S.Handles.stands c.of.result v w nodes
    (ap (λ (x : Seen). x.config) c.self.view_is)
    (ap (λ (x : Seen). x.work) c.self.view_is)
    (ap reverse (sym c.of-2.ensures))
