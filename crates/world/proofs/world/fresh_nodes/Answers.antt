use Rattle.std.proofs.Common.{◌≡◌, ◌∷◌, [], ◌+◌, List, length, slice_get, length-append, ap, ◌∙◌, arith}
use Rattle.server_core.specs.Picks.{begun}
use Rattle.world.specs.Worlds.{Seen, role_in}
use Rattle.world.proofs.Delivering.{one_node, none_at}
use Rattle.world.proofs.world.fresh_nodes.Goals as goal

pub loop-part-init : goal.loop-part-init
loop-part-init g c = record {
  count = ap length c.in_ok-nodes.ensures.items;
  each = λ p s e. absurd (none_at p s (ap (λ (l : List g.row.S.Denot). slice_get l p) c.in_ok-nodes.ensures.items) e);
}

pub loop-part-preserved : goal.loop-part-preserved
loop-part-preserved g c =
    let w : Seen = record { config = c.args.config; work = c.args.work.now; progress = begun c.args.config c.args.work.now } in
    let inv = c.loop-part.invariant in
    let is = c.in_ok-push.ensures.items in
    let node = c.in_ok-begin.field-0 in
    let len : length c.push.new.self.items ≡ c.loop-part.part + 1 = let e = ap length is in let n = inv.count in omega (arith, e, n, length-append c.loop-part.nodes.items (node ∷ [])) in
    record {
      count = len;
      each = one_node g.S.Handles.role g.S.Handles.stands (role_in w) c.loop-part.nodes.items c.push.new.self.items node c.loop-part.part inv.each inv.count is c.in_ok-begin.ensures.role c.in_ok-begin.ensures.stands;
    }

pub returns : goal.returns
returns g c =
    let inv = c.loop-part.invariant in
    let end : c.loop-part.part ≡ c.args.config.parts = omega arith in
    record { count = inv.count ∙ end; each = inv.each }
