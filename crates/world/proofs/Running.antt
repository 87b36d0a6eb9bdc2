-- Deliveries by a schedule, one after another.
use Rattle.std.proofs.Common.{◌≡◌, ℕ, zero, suc, ◌+◌, ◌-◌, ◌<◌, ◌≤◌, List, [], length, slice_get, Option, Some, None, Result, Ok, Err, refl, sym, ap, ap₂, ◌∙◌, arith}
use Rattle.std.specs.Prelude.{OnErr}
use Rattle.server_core.specs.Picks.{Progress, delivered, deliver, deliveries, most_entries, position}
use Rattle.server_core.specs.Runs.{Saying}
use Rattle.server_core.specs.Says.{says}
use Rattle.server_core.specs.declared.messages.Mail.{Mail}
use Rattle.server_core.specs.declared.schedules.Schedule.{Schedule}
use Rattle.server_core.proofs.counts.Prepares.{slice_none}
use Rattle.world.specs.Turns.{AtTurn}
use Rattle.world.specs.Worlds.{Seen}
use Rattle.world.specs.declared.picker.Picker.{Picker}

-- after n deliveries, each of which has put one entry
pub record Ran (schedule : Schedule) (first : Seen) (w : Seen) (picker : Picker) (n : ℕ) : Type 0 where
  pub config : w.config ≡ first.config
  pub work : w.work ≡ first.work
  pub turn : AtTurn schedule n picker
  pub progress : w.progress ≡ deliveries (says first.config first.work) (position schedule) 0 n first.progress
  pub entries : length w.progress.entries ≡ length first.progress.entries + n

module _ (says : Saying) (pick : ℕ → ℕ → ℕ) where
  -- one more delivery at the end
  deliveries_more : (i n : ℕ) (w : Progress) → deliveries says pick i (suc n) w ≡ deliver says (pick (i + n) (length (deliveries says pick i n w).flight)) (deliveries says pick i n w)
  deliveries_more i zero w = let same : i ≡ i + 0 = omega arith in ap (λ k. deliver says (pick k (length w.flight)) w) same
  deliveries_more i (suc n) w =
      let same : suc i + n ≡ i + suc n = omega arith in
      let next : Progress = deliver says (pick i (length w.flight)) w in
      deliveries_more (suc i) n next ∙ ap (λ k. deliver says (pick k (length (deliveries says pick (suc i) n next).flight)) (deliveries says pick (suc i) n next)) same

  pub one_delivery : (n : ℕ) (w : Progress) → deliveries says pick 0 (suc n) w ≡ deliver says (pick n (length (deliveries says pick 0 n w).flight)) (deliveries says pick 0 n w)
  one_delivery n w =
      let same : 0 + n ≡ n = omega arith in
      deliveries_more 0 n w ∙ ap (λ k. deliver says (pick k (length (deliveries says pick 0 n w).flight)) (deliveries says pick 0 n w)) same

  -- where nothing is in flight nothing is delivered
  quiet_once : (k : ℕ) (w : Progress) → w.flight ≡ [] → deliver says k w ≡ w
  quiet_once k w none = ap (λ (l : List Mail). delivered says k w (slice_get l k)) none ∙ nothing k
    where
      nothing : (k : ℕ) → delivered says k w (slice_get [] k) ≡ w
      nothing zero = refl
      nothing (suc k) = refl

  quiet_stays : (n i : ℕ) (w : Progress) → w.flight ≡ [] → deliveries says pick i n w ≡ w
  quiet_stays zero i w none = refl
  quiet_stays (suc n) i w none = ap (deliveries says pick (suc i) n) (quiet_once (pick i (length w.flight)) w none) ∙ quiet_stays n (suc i) w none

  deliveries_add : (n m i : ℕ) (w : Progress) → deliveries says pick i (n + m) w ≡ deliveries says pick (i + n) m (deliveries says pick i n w)
  deliveries_add zero m i w =
      let none : zero + m ≡ m = omega arith in
      let same : i ≡ i + 0 = omega arith in
      ap (λ k. deliveries says pick i k w) none ∙ ap (λ k. deliveries says pick k m w) same
  deliveries_add (suc n) m i w =
      let more : suc n + m ≡ suc (n + m) = omega arith in
      let same : suc i + n ≡ i + suc n = omega arith in
      let next : Progress = deliver says (pick i (length w.flight)) w in
      ap (λ k. deliveries says pick i k w) more ∙ deliveries_add n m (suc i) next ∙ ap (λ k. deliveries says pick k m (deliveries says pick (suc i) n next)) same

  -- so more turns change nothing
  pub turns_to_spare : (n most : ℕ) (w : Progress) → n ≤ most → (deliveries says pick 0 n w).flight ≡ [] → deliveries says pick 0 n w ≡ deliveries says pick 0 most w
  turns_to_spare n most w few none =
      let split : most ≡ n + (most - n) = omega (arith, few) in
      sym (quiet_stays (most - n) (0 + n) (deliveries says pick 0 n w) none) ∙ sym (deliveries_add n (most - n) 0 w) ∙ ap (λ k. deliveries says pick 0 k w) (sym split)

-- a delivery puts one entry
pub one_entry : (says : Saying) (k : ℕ) (w : Progress) → k < length w.flight → length (deliver says k w).entries ≡ length w.entries + 1
one_entry says k w in_flight = go (slice_get w.flight k) refl
  where
    go : (o : Option Mail) → slice_get w.flight k ≡ o → length (delivered says k w o).entries ≡ length w.entries + 1
    go None e = absurd (let past = slice_none w.flight k e in omega (arith, past, in_flight))
    go (Some m) e = omega arith

-- the delivery that the schedule picks is the next one
pub ran_more : (schedule : Schedule) (first w new : Seen) (picker next : Picker) (n k : ℕ) → Ran schedule first w picker n → k ≡ position schedule n (length w.progress.flight) → k < length w.progress.flight
    → AtTurn schedule (suc n) next → new.config ≡ w.config → new.work ≡ w.work → new.progress ≡ deliver (says w.config w.work) k w.progress → Ran schedule first new next (suc n)
ran_more schedule first w new picker next n k ran at in_flight turn config work step = record {
  config = config ∙ ran.config;
  work = work ∙ ran.work;
  turn = turn;
  progress =
      step ∙ ap₂ (λ c v. deliver (says c v) k w.progress) ran.config ran.work
      ∙ ap (λ j. deliver (says first.config first.work) j w.progress) at
      ∙ ap (λ (p : Progress). deliver (says first.config first.work) (position schedule n (length p.flight)) p) ran.progress
      ∙ sym (one_delivery (says first.config first.work) (position schedule) n first.progress);
  entries =
      let one = one_entry (says w.config w.work) k w.progress in_flight in
      let more = ap (λ (p : Progress). length p.entries) step in
      let old = ran.entries in
      omega (arith, one, more, old);
}

pub ran_all : (schedule : Schedule) (first w : Seen) (picker : Picker) (n : ℕ) → Ran schedule first w picker n → w.progress.flight ≡ [] → length w.progress.entries ≤ most_entries w.config w.work
    → w.progress ≡ deliveries (says first.config first.work) (position schedule) 0 (most_entries first.config first.work) first.progress
ran_all schedule first w picker n ran none short =
    let few : n ≤ most_entries first.config first.work = let old = ran.entries in let same = ap₂ most_entries ran.config ran.work in omega (arith, short, old, same) in
    ran.progress ∙ turns_to_spare (says first.config first.work) (position schedule) n (most_entries first.config first.work) first.progress few (ap (λ (p : Progress). p.flight) (sym ran.progress) ∙ none)

-- each delivery takes one of the entries that a run may have
pub fewer_left : (w new : Seen) (k : ℕ) → new.config ≡ w.config → new.work ≡ w.work → new.progress ≡ deliver (says w.config w.work) k w.progress → k < length w.progress.flight
    → length (deliver (says w.config w.work) k w.progress).entries ≤ most_entries w.config w.work
    → most_entries new.config new.work - length new.progress.entries < most_entries w.config w.work - length w.progress.entries
fewer_left w new k config work step in_flight short =
    let same = ap₂ most_entries config work in
    let one = one_entry (says w.config w.work) k w.progress in_flight in
    let more = ap (λ (p : Progress). length p.entries) step in
    omega (arith, same, one, more, short)

-- what holds, holds where a call fails
pub on_err_from : {T E P : Type 0} (r : Result T E) → P → OnErr r P
on_err_from (Ok x) p = tt
on_err_from (Err e) p = p
