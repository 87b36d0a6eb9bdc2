use Rattle.std.proofs.Common.{length, refl, sym, ap, ◌∙◌, slice_get}
use Rattle.std.proofs.lemmas.Option.{slice_get_read}
use Rattle.world.proofs.Joined.{item_at}
use Rattle.world.proofs.flight.Flight.get.Goals as goal

pub returns : goal.returns
returns g c =
    let chunks = c.self.inside.chunks.items in
    let lies = c.find-chunk.ensures in
    let here = slice_get_read chunks (length chunks) c.find-chunk.result.0 c.index.result.now refl lies.chunk_in c.index.ensures in
    ap (λ l. slice_get l c.args.index) (sym c.self.view_is)
    ∙ item_at chunks c.args.index c.find-chunk.result.0 c.find-chunk.result.1 lies c.index.result.now here ∙ c.get.ensures
