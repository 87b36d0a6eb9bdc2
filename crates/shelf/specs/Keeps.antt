-- The half of a control's relation that is the shelf's.
use Rattle.std.specs.Prelude.{◌≡◌, ◌≢◌, ◌⊎◌, ℕ, ◌+◌, ◌≤◌, List, [], ◌∷◌, length, Bool, Some, option_map, true, ⊤, if◌then◌else◌}
use Rattle.deneva_base.specs.declared.keys.Key.{Key}
use Rattle.deneva_base.specs.declared.numbers.Attempt.{Attempt}
use Rattle.deneva_base.specs.Keys.{key_lt}
use Rattle.deneva_base.specs.Lists.{IsIn}
use Rattle.deneva_base.specs.Rows.{Row, Rows}
use Rattle.protocol_rules.specs.History.{History, Asked, Grant, Yea, grants, waits, yeas, ended, IsUnended, WaitsNowhere}
use Rattle.protocol_rules.specs.Latest.{Version, writes_in, has_ended}
use Rattle.protocol_rules.specs.Leaving.{appends_in}
use Rattle.row_store.specs.declared.versions.Version.{Version as StoredVersion}
use Rattle.row_store.specs.Stores.{version_at}
use Rattle.control_core.specs.Leaving.{last}
use Rattle.shelf.specs.declared.shelf.Shelf.{Shelf}
use Rattle.shelf.specs.Held.{copies_of}
use Rattle.shelf.specs.Shelves.{held}

-- in strictly rising order
abbrev pub Rising : List Key → Type 0
Rising [] = ⊤
Rising (k ∷ ks) = ((q : Key) → IsIn q ks → key_lt k q ≡ true) × Rising ks

abbrev pub version_of : StoredVersion → Version
version_of v = record { number = v.number; row = v.row }

-- how many rows are appended by attempts that voted Yes and have not ended
abbrev pub promised_in : History → List Yea → ℕ
promised_in h [] = 0
promised_in h (y ∷ ys) = (if has_ended h y.who then 0 else length y.appends) + promised_in h ys

-- the shelf has what the history gives, and a second copy of the rows that unended attempts write, if they are copied
pub record KeepsRows (copied : Bool) (loaded : Rows) (s : Shelf) (h : History) : Type 0 where
  pub noted : (g : Grant) → IsIn g (grants h) → IsUnended h g.who → IsIn g.key (held s g.who).keys
  pub noted_waiter : (a : Asked) → IsIn a (waits h) → IsIn a.key (held s a.who).keys
  pub rising : (who : Attempt) → Rising (held s who).keys
  pub rows : (who : Attempt) → IsUnended h who → ((held s who).writes ≡ writes_in (yeas h) who) × ((held s who).copies ≡ copies_of copied (writes_in (yeas h) who)) × ((held s who).appends ≡ appends_in (yeas h) who)
  pub tables : (key : Key) (row : Row) → loaded key ≡ Some row → key.table ≤ 4
  pub versions : (key : Key) → option_map version_of (version_at s.store key) ≡ last loaded h key
  pub promised : s.promised ≡ promised_in h (yeas h)
  pub room : s.promised ≤ s.store.spare

-- no two votes Yes are of one attempt
abbrev pub Apart : List Yea → Type 0
Apart [] = ⊤
Apart (y ∷ ys) = ((z : Yea) → IsIn z ys → z.who ≢ y.who) × Apart ys

-- a grant that comes is of an access that waited
abbrev pub GrantsFrom : History → History → Type 0
GrantsFrom h h' = (g : Grant) → IsIn g (grants h') → IsIn g (grants h) ⊎ ((a : Asked) × IsIn a (waits h) × (a.who ≡ g.who) × (a.key ≡ g.key))

-- no access begins to wait
abbrev pub WaitsFrom : History → History → Type 0
WaitsFrom h h' = (a : Asked) → IsIn a (waits h') → IsIn a (waits h)

-- the end of an attempt that waits nowhere, before anyone is granted what waited for it
pub record Closes (h h' : History) (who : Attempt) : Type 0 where
  pub grants_same : grants h' ≡ grants h
  pub waits_same : waits h' ≡ waits h
  pub ended_more : ended h' ≡ who ∷ ended h
  pub yeas_same : yeas h' ≡ yeas h
  pub unended : IsUnended h who
  pub nowhere : WaitsNowhere h who

-- nobody ends: accesses that waited are granted
pub record Resumes (loaded : Rows) (h h' : History) : Type 0 where
  pub grants_from : GrantsFrom h h'
  pub waits_from : WaitsFrom h h'
  pub ended_same : ended h' ≡ ended h
  pub yeas_same : yeas h' ≡ yeas h
  pub last_same : (key : Key) → last loaded h' key ≡ last loaded h key
