use Rattle.std.proofs.Common.{◌≡◌, ap, ◌∙◌, rules, map}
use Rattle.std.specs.List.{remove}
use Rattle.world.proofs.Joined.{map-remove}
use Rattle.world.proofs.flight.Chunk.take.Goals as goal

pub returns-clause-left : goal.returns-clause-left
returns-clause-left g c =
    let e : c.remove.new.self.items ≡ remove c.self.inside.items.items c.args.place = search rules in
    ap (map (λ b. b.value)) e ∙ map-remove (λ b. b.value) c.self.inside.items.items c.args.place ∙ ap (λ l. remove l c.args.place) c.self.view_is
