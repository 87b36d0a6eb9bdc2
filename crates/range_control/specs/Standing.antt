-- What a table stands for: a history, of which it has for each key the unended accesses, the greatest number of a committed
-- one and the last version, and for each attempt its keys and rows.
use Rattle.std.specs.Prelude.{◌≡◌, ℕ, ◌-◌, List, [], ◌∷◌, map, filter, reverse, Bool, false, not, ◌&&◌, Option, Some, None, if◌then◌else◌}
use Rattle.deneva_base.specs.declared.keys.Key.{Key}
use Rattle.deneva_base.specs.declared.numbers.Attempt.{Attempt}
use Rattle.deneva_base.specs.Lists.{greatest_by}
use Rattle.deneva_base.specs.Keys.{key_eq, attempt_eq, number_lt}
use Rattle.deneva_base.specs.Modes.{reads}
use Rattle.deneva_base.specs.Rows.{Rows}
use Rattle.protocol_rules.specs.History.{History, Grant, Yea, Decided, grants, yeas, decided}
use Rattle.protocol_rules.specs.Latest.{has_ended}
use Rattle.protocol_rules.specs.Ranged.{lists, wrote, past_committed}
use Rattle.protocol_rules.specs.Maat.{maat}
use Rattle.protocol_rules.specs.Rules.{Obeys}
use Rattle.shelf.specs.declared.shelf.Shelf.{Shelf}
use Rattle.shelf.specs.Keeps.{KeepsRows}
use Rattle.range_control.specs.declared.ends.Upper.{Upper}
use Rattle.range_control.specs.declared.accesses.Window.{Window}
use Rattle.range_control.specs.declared.accesses.Held.{Held}
use Rattle.range_control.specs.declared.table.Table.{Table}
use Rattle.range_control.specs.Ends.{upper_before, first_by}
use Rattle.range_control.specs.Seen.{Accesses}
use Rattle.range_control.specs.Tables.{accesses_at}

-- what is seen of a table
pub record State : Type 0 where
  pub lines : Key → Accesses
  pub shelf : Shelf

abbrev pub state_of : Table → State
state_of t = record { lines = accesses_at t.lines; shelf = t.shelf }

-- the granted accesses to the key of attempts that have not ended, the oldest first
abbrev pub is_held : History → Key → Grant → Bool
is_held h key g = key_eq g.key key && not (has_ended h g.who)

abbrev pub held_here : History → Key → List Grant
held_here h key = filter (is_held h key) (reverse (grants h))

-- the window of the attempt's vote at a key
abbrev pub window_in : List Yea → Attempt → Key → Option Window
window_in [] who key = None
window_in (y ∷ ys) who key = if attempt_eq y.who who then Some (record { lo = y.lo; hi = y.hi; writes = lists y.writes key }) else window_in ys who key

-- one below the number of a committed attempt that wrote the key above the version read
abbrev pub under_decided : History → Grant → Decided → Option Upper
under_decided h g d = if reads g.mode && (wrote h d.who g.key && number_lt g.version d.number) then Some (record { n = d.number.n - 1; by = d.who }) else None

-- what is kept of a granted access
abbrev pub held_of : History → Grant → Held
held_of h g = record { who = g.who; mode = g.mode; version = g.version; upper = first_by upper_before (under_decided h g) None (reverse (decided h)); window = window_in (yeas h) g.who g.key }

-- the table has what the history gives
pub record Tracks (loaded : Rows) (s : State) (h : History) : Type 0 where
  pub held : (key : Key) → (s.lines key).held ≡ map (held_of h) (held_here h key)
  pub past : (key : Key) → (s.lines key).past ≡ greatest_by (past_committed h key) (decided h)
  pub kept : KeepsRows false loaded s.shelf h

-- the table stands for a history that obeys the rule with windows of at most `span` numbers
pub record Stands (span : ℕ) (t : Table) (loaded : Rows) (h : History) : Type 0 where
  pub obeys : Obeys loaded (maat span loaded) h
  pub tracks : Tracks loaded (state_of t) h
