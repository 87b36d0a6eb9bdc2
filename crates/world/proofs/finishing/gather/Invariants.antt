use Rattle.std.proofs.Common.{take}
use Rattle.world.specs.Gathered.{Gathered}
use Rattle.world.proofs.finishing.gather.Given as goal

abbrev pub invariant-loop-node : goal.invariant-loop-node
invariant-loop-node g l = Gathered g.S.Handles.role g.S.Handles.stands (take l.node-index l.nodes) l.all
