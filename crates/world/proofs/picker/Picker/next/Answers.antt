use Rattle.std.proofs.Common.{◌≡◌, slice_get, length, Some, None, refl}
use Rattle.std.proofs.lemmas.Option.{slice_get_read, slice_get_past}
use Rattle.world.proofs.Positions.{seeded_turn, listed_some, listed_none}
use Rattle.world.proofs.picker.Picker.next.Goals as goal

pub returns-in-Seeded-clause-turn : goal.returns-in-Seeded-clause-turn
returns-in-Seeded-clause-turn c = λ schedule i h.
    seeded_turn schedule i c.next_word.result c.in-Seeded.rng c.next_word.new.self c.next_word.ensures (rw c.in-Seeded.is at h)

pub returns-in-Some-clause-picked : goal.returns-in-Some-clause-picked
returns-in-Some-clause-picked c = λ schedule i h.
    let look = c.in-Some.ensures.lookup in
    let found : slice_get c.in-Listed.numbers.now c.in-Listed.next ≡ Some c.in-Some.number.now = slice_get_read c.in-Listed.numbers.now (length c.in-Listed.numbers.now) c.in-Listed.next c.in-Some.number.now refl look.3.0 look.1 in
    listed_some schedule i c.in-Listed.numbers c.in-Listed.next c.in-Some.number.now c.args.count found (rw c.in-Listed.is at h)

pub returns-in-None-clause-picked : goal.returns-in-None-clause-picked
returns-in-None-clause-picked c = λ schedule i h.
    let look = c.in-None.ensures.lookup in
    let none : slice_get c.in-Listed.numbers.now c.in-Listed.next ≡ None = slice_get_past c.in-Listed.numbers.now c.in-Listed.next look.3 in
    listed_none schedule i c.in-Listed.numbers c.in-Listed.next c.args.count none (rw c.in-Listed.is at h)
