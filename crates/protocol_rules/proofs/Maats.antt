-- MAAT answers by ranges.
use Rattle.std.proofs.Common.{◌≡◌, ℕ, ◌+◌, ◌-◌, ◌≤◌, min, leb, Bool, true, false, cond, refl, inl, arith}
use Rattle.std.proofs.lemmas.Bool.{leb-true}
use Rattle.deneva_base.specs.declared.keys.Key.{Key}
use Rattle.deneva_base.specs.declared.numbers.Attempt.{Attempt}
use Rattle.deneva_base.specs.Rows.{Rows}
use Rattle.deneva_base.specs.declared.causes.Cause.TheVariants.{EmptyRange}
use Rattle.deneva_base.specs.declared.answers.Vote.TheVariants.{Yes, No}
use Rattle.protocol_rules.specs.Ranged.{low_of, low, high, lo_key, hi_by, window_vote}
use Rattle.protocol_rules.specs.Maat.{maat}
use Rattle.protocol_rules.proofs.Rangeds.{Ranging}

-- a vote Yes is the window
pub window_yes : (span : ℕ) (key : Key) (by : Attempt) (l u lo hi : ℕ) → Yes lo hi ≡ window_vote span key by l u → (lo ≡ l) × (hi ≡ min u (l + span - 1)) × (l ≤ u)
window_yes span key by l u lo hi e = go (leb l u) refl e
  where
    go : (b : Bool) → leb l u ≡ b → Yes lo hi ≡ cond b (Yes l (min u (l + span - 1))) (No (EmptyRange l key u by)) → (lo ≡ l) × (hi ≡ min u (l + span - 1)) × (l ≤ u)
    go true t e =
        let p : lo ≡ l = cc (e) in
        let q : hi ≡ min u (l + span - 1) = cc (e) in
        (p, q, leb-true l u t)
    go false t e = absurd (cc (e))

module _ (span : ℕ) (loaded : Rows) where
  pub ranging : Ranging loaded (maat span loaded)
  ranging = record {
    ask = λ h who stamp key mode. inl refl;
    vote = λ h who bound writes appends lo hi e.
        let w = window_yes span (lo_key h bound (low_of h who writes) (low h who bound writes)) (hi_by h who (high h who)) (low h who bound writes) (high h who) lo hi e in
        (omega (arith, w.0), omega (arith, w.1), omega (arith, w.0, w.2));
    commit = λ h who number. refl;
    abort = λ h who. refl;
  }
