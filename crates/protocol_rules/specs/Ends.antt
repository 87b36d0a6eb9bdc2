-- The ends of the windows that are voted.
use Rattle.std.specs.Prelude.{◌≡◌, ◌⊎◌, ℕ, suc, ◌^◌, ◌<◌, ◌≤◌, List}
use Rattle.deneva_base.specs.declared.causes.Bound.{Bound}
use Rattle.deneva_base.specs.declared.keys.Key.{Key}
use Rattle.deneva_base.specs.declared.numbers.Attempt.{Attempt}
use Rattle.deneva_base.specs.declared.rows.Keyed.{Keyed}
use Rattle.deneva_base.specs.Lists.{IsIn}
use Rattle.protocol_rules.specs.History.{History, Grant, Decided, grants, decided, Clash}
use Rattle.protocol_rules.specs.Causes.{GivesLow, GivesHigh}

-- the committed attempt had an access that conflicted with one of the attempt's
abbrev pub Met : History → Attempt → Decided → Type 0
Met h who d = (mine : Grant) × (other : Grant) × IsIn mine (grants h) × IsIn other (grants h) × (mine.who ≡ who) × (other.who ≡ d.who) × Clash other mine

-- under a lock rule: from one past the greatest number of a committed attempt that it met, or from 1, up to the last number
pub record IsLockWindow (h : History) (who : Attempt) (lo hi : ℕ) : Type 0 where
  pub over : (d : Decided) → IsIn d (decided h) → Met h who d → d.number.n < lo
  pub lowest : (lo ≡ 1) ⊎ ((d : Decided) × IsIn d (decided h) × Met h who d × (lo ≡ suc d.number.n))
  pub last : hi ≡ 2 ^ 63

-- under MAAT: the greatest of 1, the bound and what the accesses ask for, and the least of the last number and of those to
-- which other attempts limit it
pub record IsRange (h : History) (who : Attempt) (bound : Bound) (writes : List Keyed) (lo hi : ℕ) : Type 0 where
  pub positive : 1 ≤ lo
  pub above_bound : bound.n ≤ lo
  pub above_low : (n : ℕ) (key : Key) → GivesLow h who writes n key → n ≤ lo
  pub lowest : (lo ≡ 1) ⊎ (lo ≡ bound.n) ⊎ ((key : Key) × GivesLow h who writes lo key)
  pub below_last : hi ≤ 2 ^ 63
  pub below_high : (n : ℕ) (by : Attempt) → GivesHigh h who n by → hi ≤ n
  pub highest : (hi ≡ 2 ^ 63) ⊎ ((by : Attempt) × GivesHigh h who hi by)
