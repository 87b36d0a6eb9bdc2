use Rattle.std.proofs.Common.{◌≡◌, ℕ, length, slice_get, Some, []}
use Rattle.server_core.specs.Picks.{begun}
use Rattle.world.specs.Worlds.{Seen, role_in}
use Rattle.world.proofs.world.fresh_nodes.Given as goal

abbrev pub invariant-loop-part : goal.invariant-loop-part
invariant-loop-part g l =
    let w : Seen = record { config = l.config; work = l.work; progress = begun l.config l.work } in
    record {
      count : length l.nodes.items ≡ l.part;
      each : (p : ℕ) (s : g.row.S.Denot) → slice_get l.nodes.items p ≡ Some s → (g.S.Handles.role s ≡ role_in w p) × g.S.Handles.stands s [];
    }
