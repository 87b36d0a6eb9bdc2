-- What a lock table stands for: a history, of which it keeps for each key the owners and who waits, the greatest numbers
-- of committed accesses and the last version, and for each attempt its keys and rows.
use Rattle.std.specs.Prelude.{◌≡◌, ◌⊎◌, ℕ, ◌<◌, ◌≤◌, List, [], ◌∷◌, length, Bool, true, false, ⊤}
use Rattle.deneva_base.specs.declared.keys.Key.{Key}
use Rattle.deneva_base.specs.declared.keys.Mode.{Mode}
use Rattle.deneva_base.specs.Lists.{IsIn}
use Rattle.deneva_base.specs.Modes.{writes}
use Rattle.deneva_base.specs.Rows.{Rows}
use Rattle.protocol_rules.specs.History.{History, Asked, Grant, Decided, grants, waits, decided, IsUnended}
use Rattle.protocol_rules.specs.Rules.{Rule, Obeys}
use Rattle.lock_control.specs.declared.requests.Request.{Request}
use Rattle.lock_control.specs.declared.table.Table.{Table}
use Rattle.lock_control.specs.Seen.{Locks}
use Rattle.lock_control.specs.Tables.{locks_at}
use Rattle.shelf.specs.declared.shelf.Shelf.{Shelf}
use Rattle.shelf.specs.Keeps.{KeepsRows}

-- what is seen of a table
pub record State : Type 0 where
  pub locks : Key → Locks
  pub shelf : Shelf
  pub waiting : ℕ

abbrev pub state_of : Table → State
state_of t = record { locks = locks_at t.lines; shelf = t.shelf; waiting = t.waiting }

abbrev pub owner_of : Grant → Request
owner_of g = record { who = g.who; stamp = g.stamp; mode = g.mode; waits = false }

abbrev pub waiter_of : Asked → Request
waiter_of a = record { who = a.who; stamp = a.stamp; mode = a.mode; waits = true }

-- the request is a granted access of an attempt that has not ended
pub record IsOwner (h : History) (key : Key) (r : Request) : Type 0 where
  pub grant : Grant
  pub there : IsIn grant (grants h)
  pub unended : IsUnended h grant.who
  pub here : grant.key ≡ key
  pub same : r ≡ owner_of grant

-- the request is an access that waits
pub record IsWaiter (h : History) (key : Key) (r : Request) : Type 0 where
  pub asked : Asked
  pub there : IsIn asked (waits h)
  pub here : asked.key ≡ key
  pub same : r ≡ waiter_of asked

-- the greatest number of the committed accesses to the key whose mode passes
pub record IsTop (h : History) (key : Key) (passes : Mode → Bool) (n : ℕ) : Type 0 where
  pub over : (g : Grant) (d : Decided) → IsIn g (grants h) → IsIn d (decided h) → g.who ≡ d.who → g.key ≡ key → passes g.mode ≡ true → d.number.n ≤ n
  pub from : (n ≡ 0) ⊎ ((g : Grant) × (d : Decided) × IsIn g (grants h) × IsIn d (decided h) × (g.who ≡ d.who) × (g.key ≡ key) × (passes g.mode ≡ true) × (n ≡ d.number.n))

abbrev pub any_mode : Mode → Bool
any_mode m = true

-- in strictly falling stamp order
abbrev pub Falling : List Request → Type 0
Falling [] = ⊤
Falling (r ∷ rs) = ((x : Request) → IsIn x rs → x.stamp < r.stamp) × Falling rs

-- the table has what the history gives
pub record Tracks (loaded : Rows) (s : State) (h : History) : Type 0 where
  pub owned : (g : Grant) → IsIn g (grants h) → IsUnended h g.who → IsIn (owner_of g) (s.locks g.key).requests
  pub queued : (a : Asked) → IsIn a (waits h) → IsIn (waiter_of a) (s.locks a.key).requests
  pub real : (key : Key) (r : Request) → IsIn r (s.locks key).requests → IsOwner h key r ⊎ IsWaiter h key r
  pub falling : (key : Key) → Falling (s.locks key).requests
  pub accessed : (key : Key) → IsTop h key any_mode (s.locks key).accessed
  pub written : (key : Key) → IsTop h key writes (s.locks key).written
  pub kept : KeepsRows false loaded s.shelf h
  pub waiting : s.waiting ≡ length (waits h)

-- the table stands for a history that obeys the rule
pub record Stands (rule : Rows → Rule) (t : Table) (loaded : Rows) (h : History) : Type 0 where
  pub obeys : Obeys loaded (rule loaded) h
  pub tracks : Tracks loaded (state_of t) h
