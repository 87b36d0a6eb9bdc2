-- The conditions of a call, whatever is answered.
use Rattle.std.specs.Prelude.{◌≡◌, ◌≢◌, ℕ, ◌<◌, ◌≤◌, ◌^◌, List, [], ◌∷◌, length, ⊤, Some}
use Rattle.deneva_base.specs.declared.keys.Key.{Key}
use Rattle.deneva_base.specs.declared.numbers.Attempt.{Attempt}
use Rattle.deneva_base.specs.declared.numbers.Number.{Number}
use Rattle.deneva_base.specs.Lists.{IsIn}
use Rattle.deneva_base.specs.Rows.{Row, Rows}
use Rattle.deneva_base.specs.Modes.{IsWriting}
use Rattle.deneva_base.specs.declared.causes.Bound.{Bound}
use Rattle.deneva_base.specs.declared.rows.Keyed.{Keyed}
use Rattle.protocol_rules.specs.History.{Call, Ask, Prepare, Commit, Abort, History, Asked, Grant, Yea, asks, grants, refused, yeas, aborted, IsUnended, IsOpen, WaitsNowhere}

-- the keys are distinct
abbrev pub Distinct : List Keyed → Type 0
Distinct [] = ⊤
Distinct (w ∷ ws) = ((x : Keyed) → IsIn x ws → x.key ≢ w.key) × Distinct ws

pub record MayAsk (loaded : Rows) (h : History) (who : Attempt) (stamp : ℕ) (key : Key) : Type 0 where
  pub short : length h < 2 ^ 32
  pub here : (row : Row) × (loaded key ≡ Some row)
  pub unended : IsUnended h who
  pub opened : IsOpen h who
  pub unrefused : IsIn who (refused h) → ⊥
  pub nowhere : WaitsNowhere h who
  pub once : (a : Asked) → IsIn a (asks h) → a.who ≡ who → a.key ≢ key
  pub others : (a : Asked) → IsIn a (asks h) → a.who.txn ≡ who.txn → a.who ≢ who → IsIn a.who (aborted h)
  pub same_stamp : (a : Asked) → IsIn a (asks h) → a.who ≡ who → a.stamp ≡ stamp
  pub own_stamp : (a : Asked) → IsIn a (asks h) → a.who.txn ≢ who.txn → a.stamp ≢ stamp
  pub positive : 1 ≤ stamp
  pub small : stamp < 2 ^ 48

pub record MayPrepare (h : History) (who : Attempt) (bound : Bound) (writes appends : List Keyed) : Type 0 where
  pub short : length h < 2 ^ 32
  pub something : (g : Grant) × IsIn g (grants h) × (g.who ≡ who)
  pub nowhere : WaitsNowhere h who
  pub unrefused : IsIn who (refused h) → ⊥
  pub opened : IsOpen h who
  pub unended : IsUnended h who
  pub small : bound.n < 2 ^ 48
  pub held : (w : Keyed) → IsIn w writes → (g : Grant) × IsIn g (grants h) × (g.who ≡ who) × (g.key ≡ w.key) × IsWriting g.mode
  pub distinct : Distinct writes
  pub distinct_appends : Distinct appends
  pub tables : (w : Keyed) → IsIn w appends → (5 ≤ w.key.table) × (w.key.table ≤ 8)

pub record MayCommit (h : History) (who : Attempt) (number : Number) : Type 0 where
  pub short : length h < 2 ^ 32
  pub unended : IsUnended h who
  pub own : number.id ≡ who.txn
  pub inside : (y : Yea) × IsIn y (yeas h) × (y.who ≡ who) × (y.lo ≤ number.n) × (number.n ≤ y.hi)
  pub small : number.n < 2 ^ 48

pub record MayAbort (h : History) (who : Attempt) : Type 0 where
  pub short : length h < 2 ^ 32
  pub asked : (a : Asked) × IsIn a (asks h) × (a.who ≡ who)
  pub nowhere : WaitsNowhere h who
  pub unended : IsUnended h who

abbrev pub MayCall : Rows → History → Call → Type 0
MayCall loaded h (Ask who stamp key mode answer) = MayAsk loaded h who stamp key
MayCall loaded h (Prepare who bound writes appends vote) = MayPrepare h who bound writes appends
MayCall loaded h (Commit who number woken) = MayCommit h who number
MayCall loaded h (Abort who woken) = MayAbort h who
