use Rattle.std.proofs.Common.{length, refl, ap, ◌∙◌}
use Rattle.std.specs.Prelude.{slice_set}
use Rattle.std.proofs.lemmas.Option.{slice_get_read}
use Rattle.world.specs.Chunks.{joined}
use Rattle.world.proofs.Joined.{item_at, removed_at}
use Rattle.world.proofs.flight.take_at.Goals as goal

pub returns-clause-item : goal.returns-clause-item
returns-clause-item g c =
    let chunks = c.args.chunks.now.items in
    let lies = c.find-number.ensures in
    let here = slice_get_read chunks (length chunks) c.find-number.result.0 c.index_mut-chunk.result.now refl lies.chunk_in c.index_mut-chunk.ensures.value in
    item_at chunks c.args.index c.find-number.result.0 c.find-number.result.1 lies c.index_mut-chunk.result.now here ∙ c.take-item.ensures.item

pub returns-clause-left : goal.returns-clause-left
returns-clause-left g c =
    let chunks = c.args.chunks.now.items in
    let lies = c.find-number.ensures in
    let here = slice_get_read chunks (length chunks) c.find-number.result.0 c.index_mut-chunk.result.now refl lies.chunk_in c.index_mut-chunk.ensures.value in
    c.join_few-2.ensures ∙ c.join_few.ensures ∙ ap (λ d. joined (slice_set chunks c.find-number.result.0 d)) c.take-item.ensures.left
    ∙ removed_at chunks c.args.index c.find-number.result.0 c.find-number.result.1 lies c.index_mut-chunk.result.now here
