-- What accesses stand for: the rows and the accesses of a history, granted to attempts that have not ended, or waiting.
use Rattle.std.specs.Prelude.{◌≡◌, ◌⊎◌, ℕ, ◌<◌, List, [], ◌∷◌, length, true, false, ⊤}
use Rattle.deneva_base.specs.declared.keys.Key.{Key}
use Rattle.deneva_base.specs.Lists.{IsIn}
use Rattle.deneva_base.specs.Rows.{Rows}
use Rattle.protocol_rules.specs.History.{History, Asked, Grant, grants, waits, IsUnended}
use Rattle.shelf.specs.declared.shelf.Shelf.{Shelf}
use Rattle.shelf.specs.Shelves.{held}
use Rattle.shelf.specs.Keeps.{KeepsRows}
use Rattle.stamp_lines.specs.declared.requests.Request.{Request}
use Rattle.stamp_lines.specs.declared.accesses.Accesses.{Accesses}
use Rattle.stamp_lines.specs.Tables.{requests_at}

-- what is seen of them
pub record Seen : Type 0 where
  pub requests : Key → List Request
  pub shelf : Shelf
  pub waiting : ℕ

abbrev pub seen_of : Accesses → Seen
seen_of a = record { requests = requests_at a; shelf = a.shelf; waiting = a.waiting }

abbrev pub owner_of : Grant → Request
owner_of g = record { who = g.who; stamp = g.stamp; mode = g.mode; waits = false }

abbrev pub waiter_of : Asked → Request
waiter_of a = record { who = a.who; stamp = a.stamp; mode = a.mode; waits = true }

-- the request is a granted access of an attempt that has not ended
pub record IsOwner (h : History) (key : Key) (r : Request) : Type 0 where
  pub grant : Grant
  pub there : IsIn grant (grants h)
  pub unended : IsUnended h grant.who
  pub here : grant.key ≡ key
  pub same : r ≡ owner_of grant

-- the request is an access that waits
pub record IsWaiter (h : History) (key : Key) (r : Request) : Type 0 where
  pub asked : Asked
  pub there : IsIn asked (waits h)
  pub here : asked.key ≡ key
  pub same : r ≡ waiter_of asked

-- in strictly rising stamp order
abbrev pub Rising : List Request → Type 0
Rising [] = ⊤
Rising (r ∷ rs) = ((x : Request) → IsIn x rs → r.stamp < x.stamp) × Rising rs

-- what is seen is what the history gives
pub record Tracks (loaded : Rows) (s : Seen) (h : History) : Type 0 where
  pub owned : (g : Grant) → IsIn g (grants h) → IsUnended h g.who → IsIn (owner_of g) (s.requests g.key)
  pub queued : (a : Asked) → IsIn a (waits h) → IsIn (waiter_of a) (s.requests a.key)
  pub real : (key : Key) (r : Request) → IsIn r (s.requests key) → IsOwner h key r ⊎ IsWaiter h key r
  pub rising : (key : Key) → Rising (s.requests key)
  pub stamped : (g : Grant) → IsIn g (grants h) → IsUnended h g.who → (held s.shelf g.who).stamp ≡ g.stamp
  pub stamped_waiter : (a : Asked) → IsIn a (waits h) → (held s.shelf a.who).stamp ≡ a.stamp
  pub kept : KeepsRows true loaded s.shelf h
  pub waiting : s.waiting ≡ length (waits h)
