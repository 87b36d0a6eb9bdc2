-- What the calls of a control change.
use Rattle.std.specs.Prelude.{◌≡◌, ◌⊎◌, ℕ, ◌+◌, List, [], length, Bool, true, ◌&&◌, nat_lt, Option, Some, None, option_map, if◌then◌else◌}
use Rattle.deneva_base.specs.declared.keys.Key.{Key}
use Rattle.deneva_base.specs.declared.keys.Mode.{Mode}
use Rattle.deneva_base.specs.declared.numbers.Attempt.{Attempt}
use Rattle.deneva_base.specs.declared.numbers.Number.{Number}
use Rattle.deneva_base.specs.declared.rows.Keyed.{Keyed}
use Rattle.deneva_base.specs.declared.rows.Cell.{Cell}
use Rattle.deneva_base.specs.declared.answers.Wake.{Wake}
use Rattle.deneva_base.specs.Keys.{number_lt, loaded_version}
use Rattle.protocol_rules.specs.Latest.{row_for}
use Rattle.deneva_base.specs.Modes.{reads}
use Rattle.row_store.specs.declared.versions.Version.{Version}
use Rattle.row_store.specs.Stores.{Seen, version_at}
use Rattle.chain_control.specs.declared.requests.Request.{Request}
use Rattle.chain_control.specs.declared.requests.Waiter.{Waiter}
use Rattle.chain_control.specs.declared.links.ReadVersion.{ReadVersion}
use Rattle.chain_control.specs.declared.lines.Lines.{Lines}
use Rattle.chain_control.specs.declared.table.Table.{Table}
use Rattle.chain_control.specs.Chains.{Chain, with_request, with_grant}
use Rattle.chain_control.specs.Tables.{chain_at, opened_in, below_in, key_of, row_key, waiter_key, commits_at, ends_at, wakes_at, trims_at, SetsChain, SameChains}
use Rattle.key_table.specs.Keys.{same_key}
use Rattle.key_table.specs.Tables.{changed}
use Rattle.shelf.specs.Seen.{Held}
use Rattle.shelf.specs.Shelves.{held, IsFresh, Notes, Promises, MayReserve, Ends}

-- the row and the number of a version, or no cells
abbrev pub read_of : Option ReadVersion → List Cell × Number
read_of None = ([], loaded_version)
read_of (Some l) = (l.row, l.number)

-- what an access is granted where this is the version below its stamp
abbrev pub read_in : Mode → Option ReadVersion → List Cell × Number
read_in mode best = if reads mode then read_of best else ([], loaded_version)

-- a number stands between that version and the stamp
abbrev pub above : Number → Option ReadVersion → Bool
above number None = true
above number (Some l) = number_lt l.number number

abbrev pub comes_after : Number → ℕ → Option ReadVersion → Bool
comes_after number stamp best = nat_lt number.n stamp && above number best

-- the version below the stamp after a row came under a number, if there are both
abbrev pub read_after : Option Number → Option (List Cell) → ℕ → Option ReadVersion → List Cell × Number
read_after None row stamp best = read_of best
read_after (Some number) None stamp best = read_of best
read_after (Some number) (Some row) stamp best = if comes_after number stamp best then (row, number) else read_of best

-- the wake of a request, when these rows are written where there is a number
abbrev pub wake_for : Lines → Option Number → List Keyed → Waiter → Wake
wake_for t number rows w =
    let r = read_after number (row_for w.key rows) w.stamp (below_in w.stamp (chain_at t w.key)) in
    record { who = w.who; key = w.key; row = r.0; version = r.1; bound = 0 }

-- the request waits for that version
abbrev pub waiting : Request → Option ReadVersion → Request
waiting r best = record { who = r.who; stamp = r.stamp; mode = r.mode; waits = Some (read_of best).1 }

-- a table of this store, on which nothing was called
pub record IsNew (store : Seen) (t : Table) : Type 0 where
  pub shelf : IsFresh store t.shelf
  pub lines : (key : Key) → chain_at t.lines key ≡ None
  pub waiting : t.waiting ≡ 0

-- what is kept of a key that has this version
abbrev pub opened_with : Option Version → Option Chain → Option Chain
opened_with None c = c
opened_with (Some v) c = opened_in v c

-- what is kept of the key is there
pub record Opens (key : Key) (old new : Table) : Type 0 where
  pub shelf : new.shelf ≡ old.shelf
  pub lines : SetsChain old.lines key (opened_with (version_at old.shelf.store key) (chain_at old.lines key)) new.lines
  pub waiting : new.waiting ≡ old.waiting

-- nothing has changed
pub record Stays (old new : Table) : Type 0 where
  pub shelf : new.shelf ≡ old.shelf
  pub lines : SameChains old.lines new.lines
  pub waiting : new.waiting ≡ old.waiting

-- one more access, granted with the version of this number
pub record Grants (key : Key) (version : Number) (asked : Request) (old new : Table) : Type 0 where
  pub shelf : Notes asked.who asked.stamp key old.shelf new.shelf
  pub lines : SetsChain old.lines key (option_map (with_grant version asked) (chain_at old.lines key)) new.lines
  pub waiting : new.waiting ≡ old.waiting

-- one more access, which waits
pub record Waiting (key : Key) (asked : Request) (old new : Table) : Type 0 where
  pub shelf : Notes asked.who asked.stamp key old.shelf new.shelf
  pub lines : SetsChain old.lines key (option_map (with_request asked) (chain_at old.lines key)) new.lines
  pub waiting : new.waiting ≡ old.waiting + 1

-- at most the key is noted
pub record MayNote (who : Attempt) (stamp : ℕ) (key : Key) (old new : Table) : Type 0 where
  pub shelf : MayReserve old.shelf new.shelf ⊎ Notes who stamp key old.shelf new.shelf
  pub lines : SameChains old.lines new.lines
  pub waiting : new.waiting ≡ old.waiting

-- the attempt's rows are kept
pub record Votes (who : Attempt) (writes appends : List Keyed) (old new : Table) : Type 0 where
  pub shelf : Promises who writes writes appends old.shelf new.shelf
  pub lines : SameChains old.lines new.lines
  pub waiting : new.waiting ≡ old.waiting

-- at most the store has more room
pub record MayVote (old new : Table) : Type 0 where
  pub shelf : MayReserve old.shelf new.shelf
  pub lines : SameChains old.lines new.lines
  pub waiting : new.waiting ≡ old.waiting

-- what is kept of a key after the rows were written under a number
abbrev pub commits_left : ℕ → Attempt → Option Number → List Keyed → Key → Option Chain → Option Chain
commits_left keep who None rows key c = c
commits_left keep who (Some number) rows key c = changed same_key row_key (commits_at keep who number) rows key c

-- and after the attempt's requests were taken out, those of the front were granted, and versions were dropped
abbrev pub chain_left : ℕ → Attempt → Option Number → Held → List Waiter → Key → Option Chain → Option Chain
chain_left keep who number p front key c =
    changed same_key key_of trims_at p.keys key (changed same_key waiter_key wakes_at front key (changed same_key key_of (ends_at who) p.keys key (commits_left keep who number p.copies key c)))

-- the attempt ended, and these requests were granted
pub record EndsAndWakes (keep : ℕ) (who : Attempt) (number : Option Number) (front : List Waiter) (old new : Table) : Type 0 where
  pub shelf : Ends who number old.shelf new.shelf
  pub lines : (key : Key) → chain_at new.lines key ≡ chain_left keep who number (held old.shelf who) front key (chain_at old.lines key)
  pub waiting : new.waiting + length front ≡ old.waiting
