use Rattle.std.proofs.Common.{◌≡◌, ◌<◌, ◌++◌, ◌+◌, [], length, rules, refl, ap, ◌∙◌, subst, arith, slice_get, Some}
use Rattle.std.specs.Prelude.{slice_set}
use Rattle.std.specs.List.{remove}
use Rattle.std.proofs.lemmas.Option.{slice_get_read}
use Rattle.world.specs.Chunks.{joined}
use Rattle.world.proofs.Joined.{join_next, join_undone}
use Rattle.world.proofs.flight.join_few.Goals as goal

pub returns-in-Ok : goal.returns-in-Ok
returns-in-Ok g c =
    let chunks = c.args.chunks.now.items in
    let i = c.args.number in
    let empty : c.replace-next.new.dest ≡ [] = c.replace-next.ensures.after ∙ c.new.ensures in
    let opened = slice_set chunks (i + 1) c.replace-next.new.dest in
    let behind : i + 1 < length chunks = search rules in
    let inside : i < length opened = search rules in
    let next = slice_get_read chunks (length chunks) (i + 1) c.index_mut.result.now refl behind c.index_mut.ensures.value in
    let here = slice_get_read opened (length opened) i c.index_mut-2.result.now refl inside c.index_mut-2.ensures.value in
    let left : c.remove.new.self.items ≡ remove (slice_set opened i c.append.new.self) (i + 1) = search rules in
    let whole : c.append.new.self ≡ c.index_mut-2.result.now ++ c.index_mut.result.now = c.in-Ok.ensures.ok.0 ∙ ap (λ l. c.index_mut-2.result.now ++ l) c.replace-next.ensures.value in
    ap joined left
    ∙ ap (λ l. joined (remove (slice_set opened i l) (i + 1))) whole
    ∙ ap (λ e. joined (remove (slice_set (slice_set chunks (i + 1) e) i (c.index_mut-2.result.now ++ c.index_mut.result.now)) (i + 1))) empty
    ∙ join_next chunks i (i + 1) c.index_mut-2.result.now c.index_mut.result.now (omega arith)
    (subst (λ e. slice_get (slice_set chunks (i + 1) e) i ≡ Some c.index_mut-2.result.now) empty here) next

pub returns-in-Err : goal.returns-in-Err
returns-in-Err g c =
    let chunks = c.args.chunks.now.items in
    let i = c.args.number in
    let opened = slice_set chunks (i + 1) c.replace-next.new.dest in
    let behind : i + 1 < length chunks = search rules in
    let inside : i < length opened = search rules in
    let next = slice_get_read chunks (length chunks) (i + 1) c.index_mut.result.now refl behind c.index_mut.ensures.value in
    let here = slice_get_read opened (length opened) i c.index_mut-2.result.now refl inside c.index_mut-2.ensures.value in
    let back : c.append.new.next ≡ c.index_mut.result.now = c.in-Err.ensures.err.1 ∙ c.replace-next.ensures.value in
    ap (λ l. joined (slice_set (slice_set opened i l) (i + 1) c.append.new.next)) c.in-Err.ensures.err.0
    ∙ ap (λ l. joined (slice_set (slice_set opened i c.index_mut-2.result.now) (i + 1) l)) back
    ∙ ap joined (join_undone chunks i (i + 1) c.index_mut-2.result.now c.index_mut.result.now c.replace-next.new.dest (omega arith) here next)
