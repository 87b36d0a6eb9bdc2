use Rattle.std.proofs.Common.{◌≡◌, ap, ◌∙◌, rules, [], ◌++◌, ◌∷◌}
use Rattle.world.specs.Chunks.{joined}
use Rattle.world.proofs.Joined.{joined-open}
use Rattle.world.proofs.flight.open_last.Goals as goal

pub returns-clause-items : goal.returns-clause-items
returns-clause-items g c =
    let e : c.push_back.new.self.items ≡ c.args.chunks.now.items ++ [] ∷ [] = search rules in
    ap joined e ∙ joined-open c.args.chunks.now.items
