-- What the calls of a lock table change.
use Rattle.std.specs.Prelude.{◌≡◌, ◌⊎◌, ℕ, ◌+◌, List, [], length, Bool, true, Option, Some, None}
use Rattle.deneva_base.specs.declared.keys.Key.{Key}
use Rattle.deneva_base.specs.declared.numbers.Attempt.{Attempt}
use Rattle.deneva_base.specs.declared.numbers.Number.{Number}
use Rattle.deneva_base.specs.declared.rows.Keyed.{Keyed}
use Rattle.deneva_base.specs.declared.rows.Cell.{Cell}
use Rattle.deneva_base.specs.Keys.{number_lt}
use Rattle.deneva_base.specs.declared.answers.Wake.{Wake}
use Rattle.protocol_rules.specs.Latest.{row_for}
use Rattle.row_store.specs.declared.versions.Version.{Version}
use Rattle.row_store.specs.Stores.{Seen, version_at, newest}
use Rattle.lock_control.specs.declared.requests.Request.{Request}
use Rattle.lock_control.specs.declared.lines.Waiter.{Waiter}
use Rattle.lock_control.specs.declared.table.Table.{Table}
use Rattle.lock_control.specs.Locks.{no_locks, with_request}
use Rattle.lock_control.specs.Tables.{locks_at, all_ended, all_granted, SetsLocks, SameLocks}
use Rattle.shelf.specs.Shelves.{held, read_in, IsFresh, Notes, Promises, MayReserve, Ends}

-- a table of this store, on which nothing was called
pub record IsNew (store : Seen) (t : Table) : Type 0 where
  pub shelf : IsFresh store t.shelf
  pub locks : (key : Key) → locks_at t.lines key ≡ no_locks
  pub waiting : t.waiting ≡ 0

-- one more request, of which so many wait
pub record Adds (key : Key) (asked : Request) (waits : ℕ) (old new : Table) : Type 0 where
  pub shelf : Notes asked.who asked.stamp key old.shelf new.shelf
  pub locks : SetsLocks old.lines key (with_request asked (locks_at old.lines key)) new.lines
  pub waiting : new.waiting ≡ old.waiting + waits

-- at most the key is noted
pub record MayNote (who : Attempt) (stamp : ℕ) (key : Key) (old new : Table) : Type 0 where
  pub shelf : MayReserve old.shelf new.shelf ⊎ Notes who stamp key old.shelf new.shelf
  pub locks : SameLocks old.lines new.lines
  pub waiting : new.waiting ≡ old.waiting

-- the attempt's rows are kept
pub record Votes (who : Attempt) (writes appends : List Keyed) (old new : Table) : Type 0 where
  pub shelf : Promises who writes [] appends old.shelf new.shelf
  pub lines : new.lines ≡ old.lines
  pub waiting : new.waiting ≡ old.waiting

-- at most the store has more room
pub record MayVote (old new : Table) : Type 0 where
  pub shelf : MayReserve old.shelf new.shelf
  pub lines : new.lines ≡ old.lines
  pub waiting : new.waiting ≡ old.waiting

-- the attempt ended
pub record EndsOne (who : Attempt) (number : Option Number) (old new : Table) : Type 0 where
  pub shelf : Ends who number old.shelf new.shelf
  pub locks : (key : Key) → locks_at new.lines key ≡ all_ended who number (held old.shelf who).keys key (locks_at old.lines key)
  pub waiting : new.waiting ≡ old.waiting

-- what a key has after a row came under a number, if there are both
abbrev pub comes_after : Number → Option Version → Bool
comes_after number None = true
comes_after number (Some v) = number_lt v.number number

abbrev pub version_after : Option Number → Option (List Cell) → Option Version → Option Version
version_after None row v = v
version_after (Some number) None v = v
version_after (Some number) (Some row) v = newest v (record { number = number; row = row })

-- the wake of a request, when these rows are written where there is a number
abbrev pub wake_for : Seen → Option Number → List Keyed → Waiter → Wake
wake_for store number rows w =
    let r = read_in w.mode (version_after number (row_for w.key rows) (version_at store w.key)) in
    record { who = w.who; key = w.key; row = r.0; version = r.1; bound = 0 }

-- these requests are granted
pub record Wakes (front : List Waiter) (old new : Table) : Type 0 where
  pub shelf : new.shelf ≡ old.shelf
  pub locks : (key : Key) → locks_at new.lines key ≡ all_granted front key (locks_at old.lines key)
  pub waiting : new.waiting + length front ≡ old.waiting

-- the attempt ended, and then these requests were granted
pub record EndsAndWakes (who : Attempt) (number : Option Number) (front : List Waiter) (old new : Table) : Type 0 where
  pub between : Table
  pub ends : EndsOne who number old between
  pub wakes : Wakes front between new
