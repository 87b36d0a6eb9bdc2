-- Windows of MAAT that are short enough never reach the last number, so an empty one is limited by an attempt.
use Rattle.std.proofs.Common.{◌≡◌, ℕ, ◌+◌, ◌*◌, ◌^◌, ◌<◌, ◌≤◌, List, [], ◌∷◌, length, sym, subst, ⊎_elim, arith}
use Rattle.deneva_base.specs.declared.keys.Key.{Key}
use Rattle.deneva_base.specs.declared.numbers.Attempt.{Attempt}
use Rattle.deneva_base.specs.declared.causes.Cause.{Cause}
use Rattle.deneva_base.specs.declared.causes.Cause.TheVariants.{Held, Younger, Written, ReadLater, EmptyRange, Apart, Trimmed}
use Rattle.deneva_base.specs.declared.causes.Bound.{Bound}
use Rattle.deneva_base.specs.declared.answers.Vote.{Vote}
use Rattle.deneva_base.specs.declared.answers.Vote.TheVariants.{Yes, No}
use Rattle.deneva_base.specs.declared.rows.Keyed.{Keyed}
use Rattle.deneva_base.specs.Keys.{attempt_lt}
use Rattle.deneva_base.specs.Rows.{Rows}
use Rattle.protocol_rules.specs.History.{Ask, Prepare, Commit, Abort, History}
use Rattle.protocol_rules.specs.Conditions.{MayPrepare}
use Rattle.protocol_rules.specs.Growth.{CauseUnder, VoteUnder, HistoryUnder}
use Rattle.protocol_rules.specs.Least.{IsLeast}
use Rattle.protocol_rules.specs.Maat.{maat}
use Rattle.protocol_rules.specs.Ranged.{low_of, low, high, lo_key, hi_by}
use Rattle.protocol_rules.specs.Rules.{Obeys}
use Rattle.protocol_rules.specs.Causes.{GivesHigh}
use Rattle.protocol_rules.proofs.Maats.{window_yes}
use Rattle.protocol_rules.proofs.MaatServed.{grows}
use Rattle.protocol_rules.proofs.Causes.{ends_named}

cause_more : (b c : ℕ) → b ≤ c → (x : Cause) → CauseUnder b x → CauseUnder c x
cause_more b c l (Held key by) u = u
cause_more b c l (Younger key by age) u = omega (arith, l, u)
cause_more b c l (Written key stamp) u = omega (arith, l, u)
cause_more b c l (ReadLater key stamp) u = omega (arith, l, u)
cause_more b c l (EmptyRange lo lo_key hi hi_by) u = (omega (arith, l, u.0), omega (arith, l, u.1))
cause_more b c l (Apart lo lo_part hi hi_part) u = (omega (arith, l, u.0), omega (arith, l, u.1))
cause_more b c l (Trimmed key floor) u = omega (arith, l, u)

vote_more : (b c : ℕ) → b ≤ c → (v : Vote) → VoteUnder b v → VoteUnder c v
vote_more b c l (Yes lo hi) u = omega (arith, l, u)
vote_more b c l (No cause) u = cause_more b c l cause u

history_more : (b c : ℕ) → b ≤ c → (h : History) → HistoryUnder b h → HistoryUnder c h
history_more b c l [] u = u
history_more b c l (Ask who stamp key mode answer ∷ h) u = (omega (arith, l, u.0), history_more b c l h u.1)
history_more b c l (Prepare who bound writes appends vote ∷ h) u = (omega (arith, l, u.0), vote_more b c l vote u.1, history_more b c l h u.2)
history_more b c l (Commit who number woken ∷ h) u = (omega (arith, l, u.0), history_more b c l h u.1)
history_more b c l (Abort who woken ∷ h) u = history_more b c l h u

module _ (span : ℕ) (loaded : Rows) where
  -- no number of the history is greater
  abbrev most : History → ℕ
  most [] = 2 ^ 48
  most (c ∷ h) = most h + (span + 1)

  most_least : (h : History) → 2 ^ 48 ≤ most h
  most_least [] = omega arith
  most_least (c ∷ h) = omega (arith, most_least h)

  most_small : (h : History) → span ≤ 2 ^ 30 → most h ≤ 2 ^ 48 + length h * (2 ^ 30 + 1)
  most_small [] l = omega arith
  most_small (c ∷ h) l = omega (arith, most_small h l, l)

  under : (h : History) → Obeys loaded (maat span loaded) h → HistoryUnder (most h) h
  under [] o = tt
  under (Ask who stamp key mode answer ∷ h) o = (omega (arith, most_least h, o.0.small), history_more (most h) (most h + (span + 1)) (omega arith) h (under h o.2))
  under (Prepare who bound writes appends vote ∷ h) o = (
    omega (arith, most_least h, o.0.small),
    subst (VoteUnder (most h + (span + 1))) (sym o.1) ((grows span).vote loaded h (most h) who bound writes appends o.2 (under h o.2) o.0 (omega (arith, most_least h, o.0.small))),
    history_more (most h) (most h + (span + 1)) (omega arith) h (under h o.2),
  )
  under (Commit who number woken ∷ h) o = (omega (arith, most_least h, o.0.small), history_more (most h) (most h + (span + 1)) (omega arith) h (under h o.2))
  under (Abort who woken ∷ h) o = history_more (most h) (most h + (span + 1)) (omega arith) h (under h o.2)

  pub limited : (h : History) (who : Attempt) (bound : Bound) (writes appends : List Keyed) (lo : ℕ) (key : Key) (hi : ℕ) (by : Attempt) → span ≤ 2 ^ 30 → Obeys loaded (maat span loaded) h → MayPrepare h who bound writes appends → (maat span loaded).vote h who bound writes appends ≡ No (EmptyRange lo key hi by) → IsLeast attempt_lt (GivesHigh h who hi) by
  limited h who bound writes appends lo key hi by short o may e =
      let ends = ends_named h who bound writes span loaded appends lo key hi by e in
      let top = subst (VoteUnder (most h + (span + 1))) e ((grows span).vote loaded h (most h) who bound writes appends o (under h o) may (omega (arith, most_least h, may.small))) in
      ⊎_elim (λ g. g) (λ n. absurd (omega (arith, n.0, ends.empty, top.0, most_small h short, may.short, short))) ends.of_attempt

-- a window has at least one number and at most as many as the span
pub window_some : (span : ℕ) (loaded : Rows) (h : History) (who : Attempt) (bound : Bound) (writes appends : List Keyed) (lo hi : ℕ) → 1 ≤ span → (maat span loaded).vote h who bound writes appends ≡ Yes lo hi → (lo ≤ hi) × (hi < lo + span)
window_some span loaded h who bound writes appends lo hi few e =
    let w = window_yes span (lo_key h bound (low_of h who writes) (low h who bound writes)) (hi_by h who (high h who)) (low h who bound writes) (high h who) lo hi (sym e) in
    (omega (arith, w.0, w.1, w.2, few), omega (arith, w.0, w.1, few))
