use Rattle.std.proofs.Common.{◌≡◌, length, arith, refl, ap, ◌∙◌, ◌-◌}
use Rattle.std.specs.Prelude.{slice_set}
use Rattle.std.proofs.lemmas.Option.{slice_get_read}
use Rattle.world.specs.Chunks.{joined}
use Rattle.world.proofs.Joined.{push-last}
use Rattle.world.proofs.flight.push_last.Goals as goal

pub returns-in-Ok-clause-ok : goal.returns-in-Ok-clause-ok
returns-in-Ok-clause-ok g c =
    let chunks = c.args.chunks.now.items in
    let n = c.len-last.result in
    let len : length chunks ≡ n = omega arith in
    let here = slice_get_read chunks (length chunks) (n - 1) c.index_mut-chunk.result.now refl (omega arith) c.index_mut-chunk.ensures.value in
    ap (λ d. joined (slice_set chunks (n - 1) d)) c.in-Ok.ensures.ok ∙ push-last chunks c.index_mut-chunk.result.now c.args.item n len (omega arith) here
