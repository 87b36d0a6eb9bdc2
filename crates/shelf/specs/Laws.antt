-- What a shelf has of a history after each call, and what its rows are.
use Rattle.std.specs.Prelude.{◌≡◌, ◌≤◌, ℕ, List, [], ◌∷◌, length, Bool, true, Option, Some, None, option_map}
use Rattle.deneva_base.specs.declared.keys.Key.{Key}
use Rattle.deneva_base.specs.declared.keys.Mode.{Mode}
use Rattle.deneva_base.specs.declared.numbers.Attempt.{Attempt}
use Rattle.deneva_base.specs.declared.numbers.Number.{Number}
use Rattle.deneva_base.specs.declared.rows.Keyed.{Keyed}
use Rattle.deneva_base.specs.declared.causes.Bound.{Bound}
use Rattle.deneva_base.specs.declared.causes.Cause.{Cause}
use Rattle.deneva_base.specs.declared.answers.Answer.TheVariants.{Granted, Waits, Refused}
use Rattle.deneva_base.specs.declared.answers.Vote.TheVariants.{Yes, No}
use Rattle.deneva_base.specs.Lists.{IsIn}
use Rattle.deneva_base.specs.Rows.{Row, Rows}
use Rattle.protocol_rules.specs.Conditions.{MayCommit, MayAbort}
use Rattle.protocol_rules.specs.History.{Ask, Prepare, Commit, Abort, History, yeas, IsUnended}
use Rattle.protocol_rules.specs.Latest.{row_for, latest, seen}
use Rattle.protocol_rules.specs.Leaving.{later, left_in, rows_left}
use Rattle.protocol_rules.specs.Rules.{Rule, Obeys}
use Rattle.protocol_rules.specs.Wakes.{KeepsWakes}
use Rattle.protocol_rules.specs.Windows.{KeepsWindows}
use Rattle.row_store.specs.declared.versions.Version.{Version as StoredVersion}
use Rattle.row_store.specs.Stores.{Seen, version_at, has, row_in, newest}
use Rattle.control_core.specs.Leaving.{IsLoadedStore, last}
use Rattle.shelf.specs.declared.shelf.Shelf.{Shelf}
use Rattle.shelf.specs.Held.{copies_of}
use Rattle.shelf.specs.Shelves.{held, read_in, IsFresh, Notes, Promises, MayReserve, Ends}
use Rattle.shelf.specs.Keeps.{KeepsRows, Apart, Closes, Resumes, version_of}

-- nothing was called
abbrev pub FreshKeeps : Type 0
FreshKeeps = (copied : Bool) (store : Seen) (s : Shelf) → IsFresh store s → IsLoadedStore store → KeepsRows copied (row_in store) s []

-- an access was granted, waits, or found no memory after its key was noted
abbrev pub GrantedKeeps : Type 0
GrantedKeeps = (copied : Bool) (loaded : Rows) (h : History) (who : Attempt) (stamp : ℕ) (key : Key) (s s' : Shelf)
    → KeepsRows copied loaded s h → Notes who stamp key s s'
    → (mode : Mode) (row : Row) (version : Number) (bound : ℕ) → KeepsRows copied loaded s' (Ask who stamp key mode (Granted row version bound) ∷ h)

abbrev pub WaitingKeeps : Type 0
WaitingKeeps = (copied : Bool) (loaded : Rows) (h : History) (who : Attempt) (stamp : ℕ) (key : Key) (s s' : Shelf)
    → KeepsRows copied loaded s h → Notes who stamp key s s' → (mode : Mode) → KeepsRows copied loaded s' (Ask who stamp key mode Waits ∷ h)

abbrev pub NotedKeeps : Type 0
NotedKeeps = (copied : Bool) (loaded : Rows) (h : History) (who : Attempt) (stamp : ℕ) (key : Key) (s s' : Shelf)
    → KeepsRows copied loaded s h → Notes who stamp key s s' → KeepsRows copied loaded s' h

-- an access was refused
abbrev pub RefusedKeeps : Type 0
RefusedKeeps = (copied : Bool) (loaded : Rows) (h : History) (s : Shelf) (who : Attempt) (stamp : ℕ) (key : Key) (mode : Mode) (cause : Cause)
    → KeepsRows copied loaded s h → KeepsRows copied loaded s (Ask who stamp key mode (Refused cause) ∷ h)

-- a vote was Yes, was No, or found no memory
abbrev pub PromisedKeeps : Type 0
PromisedKeeps = (copied : Bool) (loaded : Rows) (h : History) (who : Attempt) (bound : Bound) (writes appends : List Keyed) (lo hi : ℕ) (s s' : Shelf)
    → IsUnended h who → KeepsRows copied loaded s h → Promises who writes (copies_of copied writes) appends s s'
    → KeepsRows copied loaded s' (Prepare who bound writes appends (Yes lo hi) ∷ h)

abbrev pub NoKeeps : Type 0
NoKeeps = (copied : Bool) (loaded : Rows) (h : History) (s : Shelf) (who : Attempt) (bound : Bound) (writes appends : List Keyed) (cause : Cause)
    → KeepsRows copied loaded s h → KeepsRows copied loaded s (Prepare who bound writes appends (No cause) ∷ h)

abbrev pub ReservedKeeps : Type 0
ReservedKeeps = (copied : Bool) (loaded : Rows) (h : History) (s s' : Shelf) → KeepsRows copied loaded s h → MayReserve s s' → KeepsRows copied loaded s' h

-- the end of an attempt, before it wakes anyone
abbrev pub CommitCloses : Type 0
CommitCloses = (loaded : Rows) (rule : Rule) (h : History) (who : Attempt) (number : Number) → Obeys loaded rule h → MayCommit h who number → Closes h (Commit who number [] ∷ h) who

abbrev pub AbortCloses : Type 0
AbortCloses = (h : History) (who : Attempt) → MayAbort h who → Closes h (Abort who [] ∷ h) who

-- an attempt ended, and the versions are those of the history
abbrev pub EndedKeeps : Type 0
EndedKeeps = (copied : Bool) (loaded : Rows) (h h' : History) (who : Attempt) (number : Option Number) (s s' : Shelf)
    → Apart (yeas h) → Closes h h' who → KeepsRows copied loaded s h → Ends who number s s'
    → ((key : Key) → option_map version_of (version_at s'.store key) ≡ last loaded h' key) → KeepsRows copied loaded s' h'

-- accesses that waited were granted
abbrev pub ResumedKeeps : Type 0
ResumedKeeps = (copied : Bool) (loaded : Rows) (h h' : History) (s : Shelf) → KeepsRows copied loaded s h → Resumes loaded h h' → KeepsRows copied loaded s h'

-- the versions after a commit, and after an abort
abbrev pub CommitLeaves : Type 0
CommitLeaves = (copied : Bool) (loaded : Rows) (h : History) (who : Attempt) (s s' : Shelf) → KeepsRows copied loaded s h → IsUnended h who
    → (number : Number) → Ends who (Some number) s s'
    → (key : Key) → option_map version_of (version_at s'.store key) ≡ later (last loaded h key) number (row_for key (left_in (yeas h) who))

abbrev pub AbortLeaves : Type 0
AbortLeaves = (copied : Bool) (loaded : Rows) (h : History) (who : Attempt) (s s' : Shelf) → KeepsRows copied loaded s h
    → Ends who None s s' → (key : Key) → option_map version_of (version_at s'.store key) ≡ last loaded h key

-- a version that comes to a store counts as it does in a history
abbrev pub OffersLater : Type 0
OffersLater = (v : Option StoredVersion) (w : StoredVersion) → option_map version_of (newest v w) ≡ later (option_map version_of v) w.number (Some w.row)

-- an access to a loaded key reads its latest version
abbrev pub ReadsLatest : Type 0
ReadsLatest = (copied : Bool) (loaded : Rows) (rule : Rule) (h : History) (s : Shelf) → KeepsRows copied loaded s h → Obeys loaded rule h
    → (key : Key) (row : Row) → loaded key ≡ Some row → (mode : Mode)
    → read_in mode (version_at s.store key) ≡ ((seen mode (latest loaded h key)).row, (seen mode (latest loaded h key)).number)

-- the rows of an attempt that has not ended may be written and appended
abbrev pub MayEnd : Type 0
MayEnd = (copied : Bool) (loaded : Rows) (rule : Rule) (h : History) (s : Shelf) → KeepsRows copied loaded s h → Obeys loaded rule h → KeepsWakes h
    → (who : Attempt) → IsUnended h who
    → ((w : Keyed) → IsIn w (held s who).writes → has s.store w.key ≡ true) × (length (held s who).appends ≤ s.promised)

-- the rows are those that the history leaves
abbrev pub RowsLeft : Type 0
RowsLeft = (copied : Bool) (loaded : Rows) (rule : Rule) (h : History) (s : Shelf) → KeepsRows copied loaded s h → Obeys loaded rule h
    → ((k : History) → Obeys loaded rule k → KeepsWindows loaded k) → (key : Key) → row_in s.store key ≡ rows_left loaded h key
