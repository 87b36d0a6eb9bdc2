-- The window law: where the numbers of committed and prepared attempts stand.
use Rattle.std.specs.Prelude.{◌≡◌, ◌≢◌, ◌⊎◌, ℕ, ◌<◌, ◌≤◌, Some}
use Rattle.deneva_base.specs.declared.keys.Key.{Key}
use Rattle.deneva_base.specs.declared.numbers.Attempt.{Attempt}
use Rattle.deneva_base.specs.declared.numbers.Number.{Number}
use Rattle.deneva_base.specs.Lists.{IsIn}
use Rattle.deneva_base.specs.Rows.{Row, Rows}
use Rattle.deneva_base.specs.Keys.{loaded_version}
use Rattle.deneva_base.specs.Modes.{IsReading}
use Rattle.protocol_rules.specs.History.{History, Grant, Yea, Decided, grants, yeas, decided, IsUnended, Writes}

-- a committed attempt has the n of its number, a prepared one its window
abbrev pub HasWindow : History → Attempt → ℕ → ℕ → Type 0
HasWindow h who lo hi =
    ((d : Decided) × (d.who ≡ who) × IsIn d (decided h) × (lo ≡ d.number.n) × (hi ≡ d.number.n)) ⊎ ((y : Yea) × (y.who ≡ who) × IsIn y (yeas h) × IsUnended h who × (lo ≡ y.lo) × (hi ≡ y.hi))

-- the version is that of the loaded row, or a committed attempt wrote the row under it
abbrev pub IsVersion : Rows → History → Key → Number → Row → Type 0
IsVersion loaded h key version row =
    ((version ≡ loaded_version) × (loaded key ≡ Some row)) ⊎ ((d : Decided) × IsIn d (decided h) × (d.number ≡ version) × Writes h d.who key row)

-- the window law
pub record KeepsWindows (loaded : Rows) (h : History) : Type 0 where
  pub positive : (r : Attempt) (lo hi : ℕ) → HasWindow h r lo hi → 1 ≤ lo
  -- what an access that reads was granted, and where it stands under the window
  pub source : (r : Attempt) (lo hi : ℕ) (g : Grant) → HasWindow h r lo hi → IsIn g (grants h) → g.who ≡ r → IsReading g.mode → IsVersion loaded h g.key g.version g.row × (g.version.n < lo)
  -- no other writes the key between the version and the window
  pub reads : (r : Attempt) (lo hi : ℕ) (g : Grant) (u : Attempt) (lo_u hi_u : ℕ) (row : Row) → HasWindow h r lo hi → IsIn g (grants h) → g.who ≡ r → IsReading g.mode → u ≢ r → HasWindow h u lo_u hi_u → Writes h u g.key row → (hi_u ≤ g.version.n) ⊎ (hi < lo_u)
  -- two that write one key stand one below the other
  pub writers : (r : Attempt) (lo hi : ℕ) (u : Attempt) (lo_u hi_u : ℕ) (key : Key) (x y : Row) → r ≢ u → HasWindow h r lo hi → HasWindow h u lo_u hi_u → Writes h r key x → Writes h u key y → (hi < lo_u) ⊎ (hi_u < lo)
