-- What a table stands for: a history, of which it has for each key the last version, the unended accesses, the greatest stamp
-- of one that read, and the versions that those who wait would read.
use Rattle.std.specs.Prelude.{◌≡◌, ◌≤◌, true, false, Some, option_map}
use Rattle.deneva_base.specs.declared.keys.Key.{Key}
use Rattle.deneva_base.specs.Lists.{IsIn}
use Rattle.deneva_base.specs.Keys.{number_lt}
use Rattle.deneva_base.specs.Rows.{Rows}
use Rattle.protocol_rules.specs.History.{History, Asked, waits}
use Rattle.protocol_rules.specs.Latest.{Version, latest}
use Rattle.protocol_rules.specs.Rules.{Obeys}
use Rattle.protocol_rules.specs.Timestamp.{timestamp, top_read}
use Rattle.protocol_rules.specs.Versions.{below}
use Rattle.row_store.specs.declared.versions.Version.{Version as StoredVersion}
use Rattle.shelf.specs.Keeps.{version_of}
use Rattle.stamp_lines.specs.Standing.{Seen, seen_of, Tracks as TracksAccesses}
use Rattle.stamp_control.specs.declared.table.Table.{Table}
use Rattle.stamp_control.specs.Picks.{pick}
use Rattle.stamp_control.specs.Pasts.{Kept, past_at}
use Rattle.stamp_control.specs.Changes.{writers_in}

-- what is seen of a table
pub record State : Type 0 where
  pub accesses : Seen
  pub pasts : Key → Kept

abbrev pub state_of : Table → State
state_of t = record { accesses = seen_of t.accesses; pasts = past_at t.pasts }

-- the version is this one, or has a smaller number; this one is the key's latest
pub record IsPastOf (l : Version) (v : StoredVersion) : Type 0 where
  pub not_later : number_lt l.number v.number ≡ false
  pub same : v.number ≡ l.number → version_of v ≡ l

abbrev pub IsPast : Rows → History → Key → StoredVersion → Type 0
IsPast loaded h key v = IsPastOf (latest loaded h key) v

-- the table has what the history gives
pub record Tracks (loaded : Rows) (s : State) (h : History) : Type 0 where
  pub accesses : TracksAccesses loaded s.accesses h
  pub read : (key : Key) → (s.pasts key).read ≡ top_read h key
  pub waited : (a : Asked) → IsIn a (waits h) → option_map version_of (pick a.stamp (s.pasts a.key).versions) ≡ Some (below loaded h a.key a.stamp)
  pub kept : (key : Key) (v : StoredVersion) → IsIn v (s.pasts key).versions → IsPast loaded h key v
  pub writers : (key : Key) → writers_in (s.accesses.requests key) ≤ (s.pasts key).spare
  pub there : (a : Asked) → IsIn a (waits h) → (s.pasts a.key).present ≡ true

-- the table stands for a history that obeys the rule
pub record Stands (t : Table) (loaded : Rows) (h : History) : Type 0 where
  pub obeys : Obeys loaded (timestamp loaded) h
  pub tracks : Tracks loaded (state_of t) h
