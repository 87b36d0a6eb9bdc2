-- What a table stands for: a history, of which it has for each key the unended accesses, the kept versions and the floor,
-- and for each attempt its keys and rows.
use Rattle.std.specs.Prelude.{◌≡◌, ◌⊎◌, ℕ, ◌<◌, List, [], ◌∷◌, map, length, true, ⊤, Option, Some, None}
use Rattle.deneva_base.specs.declared.keys.Key.{Key}
use Rattle.deneva_base.specs.Lists.{IsIn}
use Rattle.deneva_base.specs.Rows.{Row, Rows}
use Rattle.protocol_rules.specs.History.{History, Asked, Grant, grants, waits, IsUnended}
use Rattle.protocol_rules.specs.Latest.{Version}
use Rattle.protocol_rules.specs.Rules.{Obeys}
use Rattle.protocol_rules.specs.Versions.{below}
use Rattle.protocol_rules.specs.Mvcc.{floor, top_reader, mvcc}
use Rattle.row_store.specs.Stores.{version_at}
use Rattle.chain_control.specs.declared.requests.Request.{Request}
use Rattle.chain_control.specs.declared.links.ReadVersion.{ReadVersion}
use Rattle.chain_control.specs.declared.table.Table.{Table}
use Rattle.chain_control.specs.declared.chains.Chains.{Chains}
use Rattle.chain_control.specs.Chains.{Chain}
use Rattle.chain_control.specs.Tables.{chain_at}
use Rattle.shelf.specs.declared.shelf.Shelf.{Shelf}
use Rattle.shelf.specs.Keeps.{KeepsRows}
use Rattle.chain_control.specs.Changes.{opened_with}
use Rattle.chain_control.specs.Kept.{kept}

-- what is seen of a table
pub record State : Type 0 where
  pub chains : Key → Option Chain
  pub shelf : Shelf
  pub waiting : ℕ

abbrev pub state_of : Table → State
state_of t = record { chains = chain_at t.lines; shelf = t.shelf; waiting = t.waiting }

abbrev pub requests_in : Option Chain → List Request
requests_in None = []
requests_in (Some c) = c.requests

abbrev pub owner_of : Grant → Request
owner_of g = record { who = g.who; stamp = g.stamp; mode = g.mode; waits = None }

-- one that waits has the number of the version below its stamp
abbrev pub waiter_of : Rows → History → Asked → Request
waiter_of loaded h a = record { who = a.who; stamp = a.stamp; mode = a.mode; waits = Some (below loaded h a.key a.stamp).number }

-- the request is a granted access of an attempt that has not ended
pub record IsOwner (h : History) (key : Key) (r : Request) : Type 0 where
  pub grant : Grant
  pub there : IsIn grant (grants h)
  pub unended : IsUnended h grant.who
  pub here : grant.key ≡ key
  pub same : r ≡ owner_of grant

-- the request is an access that waits
pub record IsWaiter (loaded : Rows) (h : History) (key : Key) (r : Request) : Type 0 where
  pub asked : Asked
  pub there : IsIn asked (waits h)
  pub here : asked.key ≡ key
  pub same : r ≡ waiter_of loaded h asked

-- in strictly rising stamp order
abbrev pub StampsRise : List Request → Type 0
StampsRise [] = ⊤
StampsRise (r ∷ rs) = ((x : Request) → IsIn x rs → r.stamp < x.stamp) × StampsRise rs

-- the table has the accesses and the rows that the history gives
pub record Tracks (loaded : Rows) (s : State) (h : History) : Type 0 where
  pub owned : (g : Grant) → IsIn g (grants h) → IsUnended h g.who → IsIn (owner_of g) (requests_in (s.chains g.key))
  pub queued : (a : Asked) → IsIn a (waits h) → IsIn (waiter_of loaded h a) (requests_in (s.chains a.key))
  pub real : (key : Key) (r : Request) → IsIn r (requests_in (s.chains key)) → IsOwner h key r ⊎ IsWaiter loaded h key r
  pub stamps_rise : (key : Key) → StampsRise (requests_in (s.chains key))
  pub kept : KeepsRows true loaded s.shelf h
  pub waiting : s.waiting ≡ length (waits h)

-- what is kept of a version: the greatest stamp to which it was granted
abbrev pub link_of : History → Key → Version → ReadVersion
link_of h key v = record { number = v.number; row = v.row; read = top_reader h key v.number }

-- what is kept of a key, also where nobody has asked for it yet
abbrev pub links_in : Option Chain → List ReadVersion
links_in None = []
links_in (Some c) = c.links

abbrev pub floor_in : Option Chain → ℕ
floor_in None = 0
floor_in (Some c) = c.floor

-- the table has the kept versions of a loaded key, and its floor
pub record Keeps (keep : ℕ) (loaded : Rows) (s : State) (h : History) : Type 0 where
  pub links : (key : Key) (row : Row) → loaded key ≡ Some row → links_in (opened_with (version_at s.shelf.store key) (s.chains key)) ≡ map (link_of h key) (kept keep loaded h key)
  pub floor : (key : Key) (row : Row) → loaded key ≡ Some row → floor_in (opened_with (version_at s.shelf.store key) (s.chains key)) ≡ floor keep loaded h key

-- the table stands for a history that obeys the rule with `keep` versions
pub record Stands (keep : ℕ) (t : Table) (loaded : Rows) (h : History) : Type 0 where
  pub obeys : Obeys loaded (mvcc keep loaded) h
  pub tracks : Tracks loaded (state_of t) h
  pub keeps : Keeps keep loaded (state_of t) h

-- so do chains for which their table does
abbrev pub ChainsStand : (keep : ℕ) → Chains keep → Rows → History → Type 0
ChainsStand keep c loaded h = Stands keep c.table loaded h
