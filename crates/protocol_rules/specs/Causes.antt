-- What a cause names.
use Rattle.std.specs.Prelude.{◌≡◌, ◌≢◌, ◌⊎◌, ℕ, ◌-◌, ◌^◌, ◌<◌, ◌≤◌, List, true}
use Rattle.deneva_base.specs.declared.keys.Key.{Key}
use Rattle.deneva_base.specs.declared.numbers.Attempt.{Attempt}
use Rattle.deneva_base.specs.declared.numbers.Number.{Number}
use Rattle.deneva_base.specs.declared.causes.Bound.{Bound}
use Rattle.deneva_base.specs.declared.rows.Keyed.{Keyed}
use Rattle.deneva_base.specs.Lists.{IsIn}
use Rattle.deneva_base.specs.Keys.{attempt_lt, key_lt, NumberLt}
use Rattle.deneva_base.specs.Modes.{IsReading}
use Rattle.protocol_rules.specs.History.{History, Asked, Grant, Yea, Decided, grants, yeas, decided, IsUnended, Conflict}
use Rattle.protocol_rules.specs.Least.{IsLeast, IsGreatest}
use Rattle.protocol_rules.specs.Locks.{of_lesser}
use Rattle.protocol_rules.specs.Mvcc.{versions, as_great}
use Rattle.protocol_rules.specs.Ranged.{low_of, low, high, lists, wrote}
use Rattle.protocol_rules.specs.Versions.{written}
use Rattle.deneva_base.specs.Rows.{Rows}

-- a granted access of an unended attempt that conflicts with this one
abbrev pub Bars : History → Asked → Grant → Type 0
Bars h a g = IsIn g (grants h) × IsUnended h g.who × Conflict g.who g.key g.mode a.who a.key a.mode

-- the attempt has such an access, and no lesser attempt has
abbrev pub BarsFirst : History → Asked → Attempt → Type 0
BarsFirst h a by = (g : Grant) × (g.who ≡ by) × IsLeast of_lesser (Bars h a) g

-- the attempt has such an access with this stamp, which is below that of the other, and no lesser attempt has
abbrev pub ElderBarsFirst : History → Asked → Attempt → ℕ → Type 0
ElderBarsFirst h a by age = (g : Grant) × (g.who ≡ by) × (g.stamp ≡ age) × IsLeast of_lesser (λ x. Bars h a x × (x.stamp < a.stamp)) g

-- the number of a committed write of the key, above the stamp and not below that of any
abbrev pub WrittenAbove : History → Key → ℕ → ℕ → Type 0
WrittenAbove h key stamp top = (stamp < top) × IsGreatest (λ v. v.number.n) (λ v. IsIn v (written h key)) top

-- the stamp of a granted access that read the key, above this stamp and not below that of any
abbrev pub ReadAbove : History → Key → ℕ → ℕ → Type 0
ReadAbove h key stamp top = (stamp < top) × IsGreatest (λ g. g.stamp) (λ g. IsIn g (grants h) × (g.key ≡ key) × IsReading g.mode) top

-- the same of those that read this version
abbrev pub VersionReadAbove : History → Key → Number → ℕ → ℕ → Type 0
VersionReadAbove h key version stamp top = (stamp < top) × IsGreatest (λ g. g.stamp) (λ g. IsIn g (grants h) × (g.key ≡ key) × IsReading g.mode × (g.version ≡ version)) top

-- the greatest n of a version of the key that at least so many are as great as, above the stamp
abbrev pub KeptAbove : ℕ → Rows → History → Key → ℕ → ℕ → Type 0
KeptAbove keep loaded h key stamp top = (stamp < top) × IsGreatest (λ v. v.number.n) (λ v. IsIn v (versions loaded h key) × (keep ≤ as_great (versions loaded h key) v)) top

-- an access of the attempt to the key asks for this lower end
abbrev pub GivesLow : History → Attempt → List Keyed → ℕ → Key → Type 0
GivesLow h who writes lo key = (g : Grant) × IsIn g (grants h) × (g.key ≡ key) × (low_of h who writes g ≡ lo)

-- a prepared attempt is to write a key that this one read, with a window that ends above the version read
abbrev pub LimitsPrepared : History → Attempt → Grant → Yea → Type 0
LimitsPrepared h who g y = IsIn g (grants h) × IsIn y (yeas h) × (g.who ≡ who) × IsReading g.mode × (y.who ≢ who) × IsUnended h y.who × (lists y.writes g.key ≡ true) × (g.version.n < y.hi)

-- a committed attempt wrote such a key above the version read
abbrev pub LimitsCommitted : History → Attempt → Grant → Decided → Type 0
LimitsCommitted h who g d = IsIn g (grants h) × IsIn d (decided h) × (g.who ≡ who) × IsReading g.mode × (wrote h d.who g.key ≡ true) × NumberLt g.version d.number

-- the attempt limits the window of this one to that upper end
abbrev pub GivesHigh : History → Attempt → ℕ → Attempt → Type 0
GivesHigh h who hi by = ((g : Grant) × (y : Yea) × LimitsPrepared h who g y × (y.who ≡ by) × (y.lo - 1 ≡ hi)) ⊎ ((g : Grant) × (d : Decided) × LimitsCommitted h who g d × (d.who ≡ by) × (d.number.n - 1 ≡ hi))

-- nothing limits the window to its upper end, which is that of all numbers, and the attempt itself is named
abbrev pub IsUnlimited : History → Attempt → ℕ → Attempt → Type 0
IsUnlimited h who hi by = (hi ≡ 2 ^ 63) × (by ≡ who) × ((x : Attempt) → GivesHigh h who hi x → ⊥)

-- the ends of an empty window: the key is that of the bound, or the least that gives the lower end where the bound does
-- not, and the attempt is the least that gives the upper end
pub record NamesEnds (h : History) (who : Attempt) (bound : Bound) (writes : List Keyed) (lo : ℕ) (lo_key : Key) (hi : ℕ) (hi_by : Attempt) : Type 0 where
  pub empty : hi < lo
  pub low : lo ≡ low h who bound writes
  pub high : hi ≡ high h who
  pub of_bound : bound.n ≡ lo → lo_key ≡ bound.key
  pub of_access : bound.n ≢ lo → IsLeast key_lt (GivesLow h who writes lo) lo_key
  pub of_attempt : IsLeast attempt_lt (GivesHigh h who hi) hi_by ⊎ IsUnlimited h who hi hi_by
