-- The ends of windows are the greatest and the least of what gives them.
use Rattle.std.proofs.Common.{◌≡◌, ◌⊎◌, ℕ, ◌-◌, ◌^◌, ◌<◌, ◌≤◌, ◌+◌, max, List, [], ◌∷◌, Bool, true, false, cond, ◌&&◌, refl, sym, ap, inl, inr, ⊎_elim, arith}
use Rattle.std.proofs.lemmas.Bool.{cases_lt}
use Rattle.std.specs.List.{list_any}
use Rattle.deneva_base.specs.declared.causes.Bound.{Bound}
use Rattle.deneva_base.specs.declared.keys.Key.{Key}
use Rattle.deneva_base.specs.declared.numbers.Attempt.{Attempt}
use Rattle.deneva_base.specs.declared.answers.Vote.TheVariants.{Yes}
use Rattle.deneva_base.specs.declared.rows.Keyed.{Keyed}
use Rattle.deneva_base.specs.Keys.{attempt_eq}
use Rattle.deneva_base.specs.Lists.{IsIn, greatest_by, least_by}
use Rattle.protocol_rules.specs.History.{History, Grant, Yea, Decided, grants, yeas, decided}
use Rattle.protocol_rules.specs.Locks.{clash, met, greatest_met, lock_vote}
use Rattle.protocol_rules.specs.Ranged.{low_of, low, under_prepared, under_committed, high}
use Rattle.protocol_rules.specs.Causes.{GivesLow, GivesHigh, LimitsPrepared, LimitsCommitted}
use Rattle.protocol_rules.specs.Ends.{Met, IsLockWindow, IsRange}
use Rattle.deneva_base.proofs.Membership.{any_found, and_parts, attempt_decides}
use Rattle.protocol_rules.proofs.Locks.{conflict_decides, floor_top, met_true}
use Rattle.protocol_rules.proofs.Timestamps.{top_by}
use Rattle.protocol_rules.proofs.Rangeds.{bottom_by}
use Rattle.protocol_rules.proofs.Leasts.{greatest_at}
use Rattle.protocol_rules.proofs.Causes.{told_prepared, told_committed, high_most, high_given}

module _ (h : History) (who : Attempt) where
  met_tells : (d : Decided) → met h who d ≡ true → Met h who d
  met_tells d t =
      let m = any_found (λ (mine : Grant). attempt_eq mine.who who && list_any (λ (other : Grant). attempt_eq other.who d.who && clash other mine) (grants h)) (grants h) t in
      let p = and_parts (attempt_eq m.0.who who) (list_any (λ (other : Grant). attempt_eq other.who d.who && clash other m.0) (grants h)) m.2 in
      let o = any_found (λ (other : Grant). attempt_eq other.who d.who && clash other m.0) (grants h) p.1 in
      let q = and_parts (attempt_eq o.0.who d.who) (clash o.0 m.0) o.2 in
      (m.0, o.0, m.1, o.1, (attempt_decides m.0.who who).0 p.0, (attempt_decides o.0.who d.who).0 q.0, (conflict_decides o.0.who o.0.key o.0.mode m.0.who m.0.key m.0.mode).0 q.1)

  met_at : (ds : List Decided) → (greatest_met h who ds ≡ 0) ⊎ ((d : Decided) × IsIn d ds × (met h who d ≡ true) × (greatest_met h who ds ≡ d.number.n))
  met_at [] = inl refl
  met_at (d ∷ ds) = go (met h who d) refl (met_at ds)
    where
      later : (n : ℕ) → n ≤ greatest_met h who ds → (greatest_met h who ds ≡ 0) ⊎ ((x : Decided) × IsIn x ds × (met h who x ≡ true) × (greatest_met h who ds ≡ x.number.n)) → (max n (greatest_met h who ds) ≡ 0) ⊎ ((x : Decided) × IsIn x (d ∷ ds) × (met h who x ≡ true) × (max n (greatest_met h who ds) ≡ x.number.n))
      later n le next = ⊎_elim (λ z. inl (omega (arith, z, le))) (λ x. inr (x.0, inr x.1, x.2, omega (arith, x.3, le))) next

      go : (b : Bool) → met h who d ≡ b → (greatest_met h who ds ≡ 0) ⊎ ((x : Decided) × IsIn x ds × (met h who x ≡ true) × (greatest_met h who ds ≡ x.number.n)) → (max (cond b d.number.n 0) (greatest_met h who ds) ≡ 0) ⊎ ((x : Decided) × IsIn x (d ∷ ds) × (met h who x ≡ true) × (max (cond b d.number.n 0) (greatest_met h who ds) ≡ x.number.n))
      go false e next = later 0 (omega arith) next
      go true e next =
          ⊎_elim
          (λ (lt : d.number.n < greatest_met h who ds). later d.number.n (omega (arith, lt)) next)
          (λ (le : greatest_met h who ds ≤ d.number.n). inr (d, inl refl, e, omega (arith, le)))
          (cases_lt d.number.n (greatest_met h who ds))

  pub lock_window : (lo hi : ℕ) → lock_vote h who ≡ Yes lo hi → IsLockWindow h who lo hi
  lock_window lo hi e =
      let l : 1 + greatest_met h who (decided h) ≡ lo = cc (e) in
      let u : 2 ^ 63 ≡ hi = cc (e) in
      record {
        over = λ d i m. omega (arith, l, floor_top h who (decided h) d i (met_true h who d m.0 m.1 m.2 m.4 m.3 m.5 m.6));
        lowest = ⊎_elim (λ z. inl (omega (arith, l, z))) (λ d. inr (d.0, d.1, met_tells d.0 d.2, omega (arith, l, d.3))) (met_at (decided h));
        last = sym u;
      }

  high_least : (n : ℕ) (by : Attempt) → GivesHigh h who n by → high h who ≤ n
  high_least n by gives =
      ⊎_elim
      (λ (p : (g : Grant) × (y : Yea) × LimitsPrepared h who g y × (y.who ≡ by) × (y.lo - 1 ≡ n)).
      omega (
        arith,
        bottom_by (λ (g : Grant). least_by (under_prepared h who g) (yeas h)) p.0 (grants h) p.2.0,
        bottom_by (under_prepared h who p.0) p.1 (yeas h) p.2.1,
        ap (λ b. cond b (p.1.lo - 1) (2 ^ 63)) (told_prepared h who p.0 p.1 p.2),
        p.4,
      ))
      (λ (p : (g : Grant) × (d : Decided) × LimitsCommitted h who g d × (d.who ≡ by) × (d.number.n - 1 ≡ n)).
      omega (
        arith,
        bottom_by (λ (g : Grant). least_by (under_committed h who g) (decided h)) p.0 (grants h) p.2.0,
        bottom_by (under_committed h who p.0) p.1 (decided h) p.2.1,
        ap (λ b. cond b (p.1.number.n - 1) (2 ^ 63)) (told_committed h who p.0 p.1 p.2),
        p.4,
      ))
      gives

  pub range : (bound : Bound) (writes : List Keyed) → IsRange h who bound writes (low h who bound writes) (high h who)
  range bound writes = record {
    positive = omega arith;
    above_bound = omega arith;
    above_low = λ n key g. omega (arith, g.3, top_by (low_of h who writes) g.0 (grants h) g.1);
    lowest = at_low;
    below_last = high_most h who;
    below_high = high_least;
    highest = ⊎_elim (λ lt. inr (high_given h who lt)) (λ ge. inl (omega (arith, ge, high_most h who))) (cases_lt (high h who) (2 ^ 63));
  }
    where
      at_low : (low h who bound writes ≡ 1) ⊎ (low h who bound writes ≡ bound.n) ⊎ ((key : Key) × GivesLow h who writes (low h who bound writes) key)
      at_low =
          ⊎_elim
          (λ (lt : max 1 bound.n < greatest_by (low_of h who writes) (grants h)).
          let m = greatest_at (low_of h who writes) (grants h) (omega (arith, lt)) in
          inr (inr (m.0.key, (m.0, m.1, refl, omega (arith, m.2, lt)))))
          (λ (le : greatest_by (low_of h who writes) (grants h) ≤ max 1 bound.n).
          ⊎_elim (λ (z : bound.n < 1). inl (omega (arith, z, le))) (λ (p : 1 ≤ bound.n). inr (inl (omega (arith, p, le)))) (cases_lt bound.n 1))
          (cases_lt (max 1 bound.n) (greatest_by (low_of h who writes) (grants h)))
