-- The next position of a schedule.
use Rattle.std.proofs.Common.{◌≡◌, ℕ, zero, suc, ◌%◌, ◌<◌, ◌≤◌, List, length, slice_get, Some, None, Bor, refl, sym, ap, ◌∙◌, arith}
use Rattle.std.proofs.lemmas.Option.{slice_get_within, slice_get_past}
use Rattle.rand_pcg.specs.Lcg.{Lcg, next, advance, state_after, next_state, increment_of, started}
use Rattle.rand_pcg.specs.Pcg.{multiplier_64, pcg32}
use Rattle.rand_pcg.proofs.LcgLemmas.{advance_zero}
use Rattle.server_core.specs.Picks.{position, listed}
use Rattle.server_core.specs.declared.schedules.Schedule.{Schedule}
use Rattle.server_core.specs.declared.schedules.Schedule.TheVariants as schedules
use Rattle.server_core.proofs.counts.Prepares.{slice_none}
use Rattle.world.specs.Turns.{AtTurn}
use Rattle.world.specs.declared.picker.Picker.TheVariants as pickers

-- one step after n
state_after-next : (w m c n s : ℕ) → state_after w m c (suc n) s ≡ next_state w m c (state_after w m c n s)
unfolding state_after
state_after-next w m c zero s = refl
state_after-next w m c (suc n) s = state_after-next w m c n (next_state w m c s)

pub advance_next : (w m n : ℕ) (g : Lcg) → advance w m (suc n) g ≡ next w m (advance w m n g)
advance_next w m n g = ap (λ s. record g { state = s }) (state_after-next w m g.increment n g.state)

pub seeded_first : (seed : ℕ) (schedule : Schedule) (rng : Lcg) → schedule ≡ schedules.Seed seed → rng ≡ started 64 multiplier_64 seed (increment_of 64 2) → AtTurn schedule 0 (pickers.Seeded rng)
seeded_first seed schedule rng is e = rw is (e ∙ sym (advance_zero 64 multiplier_64 (started 64 multiplier_64 seed (increment_of 64 2))))

pub seeded_turn : (schedule : Schedule) (i r : ℕ) (rng new : Lcg) → (r, new) ≡ pcg32 rng → AtTurn schedule i (pickers.Seeded rng) → AtTurn schedule (suc i) (pickers.Seeded new)
seeded_turn schedules.Fifo i r rng new e h = absurd h
seeded_turn schedules.Lifo i r rng new e h = absurd h
seeded_turn (schedules.Seed seed) i r rng new e h =
    let g = started 64 multiplier_64 seed (increment_of 64 2) in
    ap (λ (p : ℕ × Lcg). p.1) e ∙ ap (next 64 multiplier_64) h ∙ sym (advance_next 64 multiplier_64 i g)
seeded_turn (schedules.Listed numbers) i r rng new e h = absurd h

-- a list's index is that of the delivery, as long as there is a number
pub listed_some : (schedule : Schedule) (i : ℕ) (numbers : Bor (List ℕ)) (at k count : ℕ) → slice_get numbers.now at ≡ Some k → AtTurn schedule i (pickers.Listed numbers at) → k % count ≡ position schedule i count
listed_some schedules.Fifo i numbers at k count e h = absurd h
listed_some schedules.Lifo i numbers at k count e h = absurd h
listed_some (schedules.Seed seed) i numbers at k count e h = absurd h
listed_some (schedules.Listed all) i numbers at k count e h =
    let within : at < length numbers.now = slice_get_within numbers.now at k e in
    let same : at ≡ i = omega (arith, within, h.1, ap length h.0) in
    let found : slice_get all i ≡ Some k = ap (λ l. slice_get l i) (sym h.0) ∙ ap (slice_get numbers.now) (sym same) ∙ e in
    ap (λ o. listed o count) (sym found)

pub listed_none : (schedule : Schedule) (i : ℕ) (numbers : Bor (List ℕ)) (at count : ℕ) → slice_get numbers.now at ≡ None → AtTurn schedule i (pickers.Listed numbers at) → 0 ≡ position schedule i count
listed_none schedules.Fifo i numbers at count e h = absurd h
listed_none schedules.Lifo i numbers at count e h = absurd h
listed_none (schedules.Seed seed) i numbers at count e h = absurd h
listed_none (schedules.Listed all) i numbers at count e h =
    let past : length numbers.now ≤ at = slice_none numbers.now at e in
    let over : length all ≤ i = omega (arith, past, h.1, ap length h.0) in
    ap (λ o. listed o count) (sym (slice_get_past all i over))
