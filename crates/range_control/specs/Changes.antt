-- What the calls of a control change.
use Rattle.std.specs.Prelude.{◌≡◌, ◌⊎◌, ℕ, suc, max, List, [], Option, Some, None}
use Rattle.deneva_base.specs.declared.keys.Key.{Key}
use Rattle.deneva_base.specs.declared.keys.Mode.{Mode}
use Rattle.deneva_base.specs.declared.keys.Mode.TheVariants.{Read, Update, Put}
use Rattle.deneva_base.specs.declared.numbers.Attempt.{Attempt}
use Rattle.deneva_base.specs.declared.numbers.Number.{Number}
use Rattle.deneva_base.specs.declared.rows.Keyed.{Keyed}
use Rattle.deneva_base.specs.declared.causes.Bound.{Bound}
use Rattle.deneva_base.specs.declared.answers.Vote.{Vote}
use Rattle.deneva_base.specs.declared.answers.Vote.TheVariants.{Yes, No}
use Rattle.row_store.specs.declared.versions.Version.{Version}
use Rattle.row_store.specs.Stores.{Seen}
use Rattle.shelf.specs.Shelves.{held, IsFresh, Notes, Promises, MayReserve, Ends}
use Rattle.range_control.specs.declared.ends.Upper.{Upper}
use Rattle.range_control.specs.declared.accesses.Held.{Held}
use Rattle.range_control.specs.declared.table.Table.{Table}
use Rattle.range_control.specs.Ends.{upper_before, lower_before, first_by, lower_end, upper_end}
use Rattle.range_control.specs.Accesses.{no_accesses, ended_in, with_access}
use Rattle.range_control.specs.Tables.{accesses_at, lower_at, upper_at, prepared_at, all_changed, SetsAccesses, SameAccesses}

-- one past the number of a version
abbrev pub past_version : Option Version → ℕ
past_version None = 1
past_version (Some v) = suc v.number.n

-- the bound of an access to a key of this version, whose accesses end before `past`
abbrev pub bound_in : Mode → Option Version → ℕ → ℕ
bound_in Read v past = past_version v
bound_in Update v past = max (past_version v) past
bound_in Put v past = max 1 past

abbrev pub new_access : Attempt → Mode → Number → Held
new_access who mode version = record { who = who; mode = mode; version = version; upper = None; window = None }

-- the ends of an attempt's window
abbrev pub lower_for : Table → Attempt → Bound → List Keyed → Bound
lower_for t who bound ws = lower_end bound (first_by lower_before (lower_at t.lines who ws) None (held t.shelf who).keys)

abbrev pub upper_for : Table → Attempt → Upper
upper_for t who = upper_end who (first_by upper_before (upper_at t.lines who) None (held t.shelf who).keys)

-- a table of this store, on which nothing was called
pub record IsNew (store : Seen) (t : Table) : Type 0 where
  pub shelf : IsFresh store t.shelf
  pub lines : (key : Key) → accesses_at t.lines key ≡ no_accesses

-- one more access
pub record Adds (stamp : ℕ) (key : Key) (access : Held) (old new : Table) : Type 0 where
  pub shelf : Notes access.who stamp key old.shelf new.shelf
  pub lines : SetsAccesses old.lines key (with_access access (accesses_at old.lines key)) new.lines

-- at most the key is noted
pub record MayNote (who : Attempt) (stamp : ℕ) (key : Key) (old new : Table) : Type 0 where
  pub shelf : MayReserve old.shelf new.shelf ⊎ Notes who stamp key old.shelf new.shelf
  pub lines : SameAccesses old.lines new.lines

-- the attempt has a window, and its rows are kept
pub record VotesYes (who : Attempt) (lo hi : ℕ) (writes appends : List Keyed) (old new : Table) : Type 0 where
  pub shelf : Promises who writes [] appends old.shelf new.shelf
  pub lines : (key : Key) → accesses_at new.lines key ≡ all_changed (prepared_at who lo hi writes) (held old.shelf who).keys key (accesses_at old.lines key)

-- at most the store has more room
pub record MayVote (old new : Table) : Type 0 where
  pub shelf : MayReserve old.shelf new.shelf
  pub lines : new.lines ≡ old.lines

-- what a vote changes
abbrev pub Votes : Vote → Attempt → List Keyed → List Keyed → Table → Table → Type 0
Votes (Yes lo hi) who writes appends old new = VotesYes who lo hi writes appends old new
Votes (No cause) who writes appends old new = new ≡ old

-- the attempt ended
pub record EndsOne (who : Attempt) (number : Option Number) (old new : Table) : Type 0 where
  pub shelf : Ends who number old.shelf new.shelf
  pub lines : (key : Key) → accesses_at new.lines key ≡ all_changed (λ k. ended_in who number) (held old.shelf who).keys key (accesses_at old.lines key)
