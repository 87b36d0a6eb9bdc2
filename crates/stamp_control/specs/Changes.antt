-- What the calls of a table answer and change.
use Rattle.std.specs.Prelude.{◌≡◌, ℕ, ◌+◌, List, [], ◌∷◌, Bool, true, ◌&&◌, nat_lt, Option, Some, None, if◌then◌else◌}
use Rattle.std.specs.List.{list_any}
use Rattle.deneva_base.specs.declared.keys.Key.{Key}
use Rattle.deneva_base.specs.declared.keys.Mode.{Mode}
use Rattle.deneva_base.specs.declared.numbers.Attempt.{Attempt}
use Rattle.deneva_base.specs.declared.numbers.Number.{Number}
use Rattle.deneva_base.specs.declared.rows.Keyed.{Keyed}
use Rattle.deneva_base.specs.declared.rows.Cell.{Cell}
use Rattle.deneva_base.specs.declared.causes.Cause.{Cause}
use Rattle.deneva_base.specs.declared.causes.Cause.TheVariants.{Written, ReadLater}
use Rattle.deneva_base.specs.declared.answers.Wake.{Wake}
use Rattle.deneva_base.specs.Keys.{key_eq, loaded_version}
use Rattle.deneva_base.specs.Modes.{reads, writes}
use Rattle.protocol_rules.specs.Latest.{row_for}
use Rattle.row_store.specs.declared.versions.Version.{Version}
use Rattle.row_store.specs.Stores.{Seen, version_at}
use Rattle.stamp_lines.specs.declared.requests.Request.{Request}
use Rattle.stamp_lines.specs.declared.lines.Waiter.{Waiter}
use Rattle.stamp_lines.specs.Tables.{requests_at, part_of}
use Rattle.stamp_lines.specs.Changes.{IsFresh as AreFresh, Same, Adds, Promises as Promised, Ends as Ended, Wakes as Woken}
use Rattle.stamp_control.specs.declared.pasts.Pasts.{Pasts}
use Rattle.stamp_control.specs.declared.table.Table.{Table}
use Rattle.stamp_control.specs.Picks.{offer, pick}
use Rattle.stamp_control.specs.Pasts.{Kept, no_past, past_at, with_version, with_latest, granted_at, all_granted_at, SetsPast, Widens, HasRoom, Trims}

-- the number of the key's row
abbrev pub written_in : Option Version → ℕ
written_in None = 0
written_in (Some v) = v.number.n

-- why an access of the stamp comes too late for a key that was written and read so late
abbrev pub refusal_in : ℕ → Key → Mode → ℕ → ℕ → Option Cause
refusal_in stamp key mode written read =
    if reads mode && nat_lt stamp written then Some (Written key written)
    else if writes mode && nat_lt stamp read then Some (ReadLater key read) else None

-- how many of the requests write
abbrev pub writers_in : List Request → ℕ
writers_in [] = 0
writers_in (r ∷ rs) = (if writes r.mode then 1 else 0) + writers_in rs

-- one of them waits above this number
abbrev pub any_above : ℕ → List Request → Bool
any_above n rs = list_any (λ r. r.waits && nat_lt n r.stamp) rs

-- what is kept of a key once these rows came under a number, where these requests are for it
abbrev pub kept_by : Number → List Keyed → List Request → Key → Kept → Kept
kept_by number [] rs key p = p
kept_by number (w ∷ ws) rs key p = kept_by number ws rs key (if key_eq w.key key && any_above number.n rs then with_version (record { number = number; row = w.row }) p else p)

-- a table of this store, on which nothing was called
pub record IsFresh (store : Seen) (t : Table) : Type 0 where
  pub accesses : AreFresh store t.accesses
  pub pasts : (key : Key) → past_at t.pasts key ≡ no_past

-- what is kept, with room for so many more versions of the key
pub record Reserves (key : Key) (count : ℕ) (old new : Pasts) : Type 0 where
  pub same : Widens old new
  pub room : HasRoom key count new

-- an access is granted
pub record Grants (key : Key) (asked : Request) (old new : Table) : Type 0 where
  pub accesses : Adds key asked old.accesses new.accesses
  pub between : Pasts
  pub reserves : Reserves key (writers_in (requests_at old.accesses key) + 1) old.pasts between
  pub pasts : (k : Key) → past_at new.pasts k ≡ granted_at key asked.stamp asked.mode k (past_at between k)

-- the request waits
abbrev pub waiting : Request → Request
waiting r = record { who = r.who; stamp = r.stamp; mode = r.mode; waits = true }

-- the version of a key, and no cells where there is none
abbrev pub version_or : Option Version → Version
version_or None = record { number = loaded_version; row = [] }
version_or (Some v) = v

-- an access waits
pub record LetsWait (key : Key) (asked : Request) (old new : Table) : Type 0 where
  pub accesses : Adds key (waiting asked) old.accesses new.accesses
  pub between : Pasts
  pub reserves : Reserves key (writers_in (requests_at old.accesses key) + 2) old.pasts between
  pub pasts : SetsPast between key (with_latest asked.stamp (version_or (version_at old.accesses.shelf.store key)) (past_at between key)) new.pasts

-- at most there is more room for versions
pub record MayWiden (old new : Table) : Type 0 where
  pub accesses : Same old.accesses new.accesses
  pub pasts : Widens old.pasts new.pasts

-- the attempt's rows are kept
pub record Promises (who : Attempt) (writes appends : List Keyed) (old new : Table) : Type 0 where
  pub accesses : Promised who writes appends old.accesses new.accesses
  pub pasts : new.pasts ≡ old.pasts

-- at most the store has more room
pub record MayReserve (old new : Table) : Type 0 where
  pub accesses : Same old.accesses new.accesses
  pub pasts : new.pasts ≡ old.pasts

-- what is kept of a key after the attempt ended
abbrev pub kept_left : Option Number → List Keyed → List Request → Key → Kept → Kept
kept_left None copies rs key p = p
kept_left (Some number) copies rs key p = kept_by number copies rs key p

-- the attempt ended
pub record Ends (who : Attempt) (number : Option Number) (old new : Table) : Type 0 where
  pub accesses : Ended who number old.accesses new.accesses
  pub pasts : (key : Key) → past_at new.pasts key ≡ kept_left number (part_of old.accesses who).copies (requests_at new.accesses key) key (past_at old.pasts key)

-- these accesses are granted
pub record Wakes (front : List Waiter) (old new : Table) : Type 0 where
  pub accesses : Woken front old.accesses new.accesses
  pub pasts : (key : Key) → past_at new.pasts key ≡ all_granted_at front key (past_at old.pasts key)

-- what nobody who waits would read is gone
pub record Trimmed (old new : Table) : Type 0 where
  pub accesses : new.accesses ≡ old.accesses
  pub pasts : (key : Key) → Trims (requests_at new.accesses key) (past_at old.pasts key) (past_at new.pasts key)

-- all three, one after another
pub record EndsAndWakes (who : Attempt) (number : Option Number) (front : List Waiter) (old new : Table) : Type 0 where
  pub ended : Table
  pub awake : Table
  pub ends : Ends who number old ended
  pub wakes : Wakes front ended awake
  pub trims : Trimmed awake new

-- what a waiter would read where a row comes under a number, if there are both
abbrev pub pick_after : Option Number → Option (List Cell) → ℕ → Option Version → Option Version
pick_after None row stamp best = best
pick_after (Some number) None stamp best = best
pick_after (Some number) (Some row) stamp best = offer stamp best (record { number = number; row = row })

abbrev pub version_or_empty : Option Version → List Cell × Number
version_or_empty None = ([], loaded_version)
version_or_empty (Some v) = (v.row, v.number)

-- the wake of a waiter, when these rows are written where there is a number
abbrev pub wake_for : Pasts → Option Number → List Keyed → Waiter → Wake
wake_for pasts number rows w =
    let r = version_or_empty (pick_after number (row_for w.key rows) w.stamp (pick w.stamp (past_at pasts w.key).versions)) in
    record { who = w.who; key = w.key; row = r.0; version = r.1; bound = 0 }
