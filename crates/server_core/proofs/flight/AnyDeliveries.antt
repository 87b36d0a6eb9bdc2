-- Whatever mail is delivered next, it is a run, and it ends: under any saying for which no two mails in flight are equal and
-- no run is longer than a bound.
use Rattle.std.proofs.Common.{◌≡◌, ◌⊎◌, ℕ, zero, suc, ◌+◌, ◌<◌, ◌≤◌, List, [], ◌∷◌, ◌++◌, length, slice_get, Option, Some, None, refl, sym, ap, subst, inl, inr, ⊎_elim, arith, ◌%◌}
use Rattle.deneva_base.specs.Lists.{IsIn}
use Rattle.server_core.specs.Picks.{Progress, delivered, deliver, deliveries, PicksOne, position, listed, word}
use Rattle.server_core.specs.Runs.{Saying, Reaches}
use Rattle.server_core.specs.Setting.{take_first, drop_first}
use Rattle.server_core.specs.declared.messages.Entry.{Entry}
use Rattle.server_core.specs.declared.messages.Mail.{Mail}
use Rattle.server_core.proofs.lists.ListTests.{split_there}
use Rattle.server_core.proofs.counts.Prepares.{slice_none}
use Rattle.server_core.specs.declared.schedules.Schedule.{Schedule}
use Rattle.server_core.specs.declared.schedules.Schedule.TheVariants.{Fifo, Lifo, Seed, Listed}

module _ (says : Saying) (opening : List Mail) (apart : (H : List Entry) (flight : List Mail) → Reaches says opening H flight → (m : Mail) (front back : List Mail) → flight ≡ front ++ m ∷ back → IsIn m front → ⊥) (most : ℕ) (short : (H : List Entry) (flight : List Mail) → Reaches says opening H flight → length H ≤ most) where
  pub deliver_run : (k : ℕ) (w : Progress) → Reaches says opening w.entries w.flight → Reaches says opening (deliver says k w).entries (deliver says k w).flight
  deliver_run k w r = go (slice_get w.flight k) refl
    where
      go : (o : Option Mail) → slice_get w.flight k ≡ o → Reaches says opening (delivered says k w o).entries (delivered says k w o).flight
      go None e = r
      go (Some m) e =
          let stood : w.flight ≡ take_first k w.flight ++ m ∷ drop_first (suc k) w.flight = split_there k w.flight m e in (
            w.flight,
            m,
            refl,
            record {
              front = take_first k w.flight;
              back = drop_first (suc k) w.flight;
              stood = stood;
              first = λ i. apart w.entries w.flight r m (take_first k w.flight) (drop_first (suc k) w.flight) stood i;
              left = refl;
            },
            r,
          )

  pub schedule_run : (pick : ℕ → ℕ → ℕ) (i n : ℕ) (w : Progress) → Reaches says opening w.entries w.flight → Reaches says opening (deliveries says pick i n w).entries (deliveries says pick i n w).flight
  schedule_run pick i zero w r = r
  schedule_run pick i (suc n) w r = schedule_run pick (suc i) n (deliver says (pick i (length w.flight)) w) (deliver_run (pick i (length w.flight)) w r)

  -- each step takes a mail, while there is one
  module _ (pick : ℕ → ℕ → ℕ) (picks : PicksOne pick) where
    stays : (i n : ℕ) (w : Progress) → w.flight ≡ [] → (deliveries says pick i n w).flight ≡ []
    stays i zero w e = e
    stays i (suc n) w e = stays (suc i) n (deliver says (pick i (length w.flight)) w) (still (slice_get w.flight (pick i (length w.flight))) refl)
      where
        still : (o : Option Mail) → slice_get w.flight (pick i (length w.flight)) ≡ o → (delivered says (pick i (length w.flight)) w o).flight ≡ []
        still None f = e
        still (Some m) f = absurd (none (pick i (length w.flight)) (subst (λ l. slice_get l (pick i (length w.flight)) ≡ Some m) e f))
          where
            none : (k : ℕ) → slice_get [] k ≡ Some m → ⊥
            none k g = cc (g)

    one_more : (i : ℕ) (w : Progress) → (w.flight ≡ []) ⊎ (length (deliver says (pick i (length w.flight)) w).entries ≡ suc (length w.entries))
    one_more i w = go w.flight refl
      where
        go : (l : List Mail) → w.flight ≡ l → (w.flight ≡ []) ⊎ (length (deliver says (pick i (length w.flight)) w).entries ≡ suc (length w.entries))
        go [] e = inl e
        go (m ∷ l) e =
            let some : 1 ≤ length w.flight = subst (λ z. 1 ≤ length z) (sym e) (omega arith) in
            inr (found (slice_get w.flight (pick i (length w.flight))) refl (picks i (length w.flight) some))
          where
            found : (o : Option Mail) → slice_get w.flight (pick i (length w.flight)) ≡ o → pick i (length w.flight) < length w.flight → length (delivered says (pick i (length w.flight)) w o).entries ≡ suc (length w.entries)
            found None f h = absurd (omega (arith, slice_none w.flight (pick i (length w.flight)) f, h))
            found (Some k) f h = refl

    grows : (i n : ℕ) (w : Progress) → ((deliveries says pick i n w).flight ≡ []) ⊎ (length (deliveries says pick i n w).entries ≡ length w.entries + n)
    grows i zero w = inr (omega arith)
    grows i (suc n) w =
        ⊎_elim
        (λ e. inl (stays i (suc n) w e))
        (λ one. ⊎_elim (λ e. inl e) (λ g. inr (omega (arith, one, g))) (grows (suc i) n (deliver says (pick i (length w.flight)) w)))
        (one_more i w)

    -- so after as many as a run may have, nothing is in flight
    pub ends : (w : Progress) → w.entries ≡ [] → Reaches says opening w.entries w.flight → (deliveries says pick 0 most w).flight ≡ []
    ends w none start =
        let n : ℕ = most in
        let last : Progress = deliveries says pick 0 n w in
        let run = schedule_run pick 0 n w start in
        let next = deliver_run (pick n (length last.flight)) last run in
        let more : Progress = deliver says (pick n (length last.flight)) last in
        ⊎_elim
        (λ e. e)
        (λ g. ⊎_elim
        (λ e. e)
        (λ one. absurd (omega (arith, g, one, ap length none, short more.entries more.flight next)))
        (one_more n last))
        (grows 0 n w)

-- every schedule picks a mail in flight
pub position_picks : (schedule : Schedule) → PicksOne (position schedule)
position_picks Fifo i n h = h
position_picks Lifo i n h = omega (arith, h)
position_picks (Seed seed) i n h = below (word seed i) n h
  where
    below : (a n : ℕ) → 1 ≤ n → a % n < n
    below a n h = omega (arith, h)
position_picks (Listed numbers) i n h = go (slice_get numbers i)
  where
    below : (a n : ℕ) → 1 ≤ n → a % n < n
    below a n h = omega (arith, h)

    go : (o : Option ℕ) → listed o n < n
    go None = h
    go (Some k) = below k n h
