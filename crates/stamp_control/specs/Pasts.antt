-- What is kept of a key besides its latest row.
use Rattle.std.specs.Prelude.{◌≡◌, ℕ, ◌-◌, ◌≤◌, max, List, [], ◌∷◌, ◌++◌, Bool, true, false, ◌&&◌, Option, Some, None, vec_len, vec_capacity, if◌then◌else◌}
use Rattle.std.specs.Map.{lookup}
use Rattle.deneva_base.specs.declared.keys.Key.{Key}
use Rattle.deneva_base.specs.declared.keys.Mode.{Mode}
use Rattle.deneva_base.specs.declared.numbers.Number.{Number}
use Rattle.deneva_base.specs.Keys.{number_eq}
use Rattle.deneva_base.specs.Lists.{IsIn}
use Rattle.deneva_base.specs.Modes.{reads}
use Rattle.row_store.specs.declared.versions.Version.{Version}
use Rattle.stamp_lines.specs.declared.requests.Request.{Request}
use Rattle.stamp_lines.specs.declared.lines.Waiter.{Waiter}
use Rattle.key_table.specs.Keys.{same_key}
use Rattle.stamp_control.specs.declared.pasts.Past.{Past}
use Rattle.stamp_control.specs.declared.pasts.Pasts.{Pasts}
use Rattle.stamp_control.specs.Picks.{pick}

-- the greatest stamp of an access that read the key, the versions that are kept, and for how many more there is room
pub record Kept : Type 0 where
  pub read : ℕ
  pub versions : List Version
  pub spare : ℕ
  pub present : Bool

abbrev pub no_past : Kept
no_past = record { read = 0; versions = []; spare = 0; present = false }

abbrev pub past_of : Past → Kept
past_of p = record { read = p.read; versions = p.kept.items; spare = vec_capacity p.kept - vec_len p.kept; present = true }

abbrev pub past_in : Option Past → Kept
past_in None = no_past
past_in (Some p) = past_of p

abbrev pub past_at : Pasts → Key → Kept
past_at t key = past_in (lookup (same_key key) t.pasts.entries)

-- with one more version
abbrev pub with_version : Version → Kept → Kept
with_version v p = record { read = p.read; versions = p.versions ++ v ∷ []; spare = p.spare - 1; present = p.present }

-- with the latest version, unless it is picked for the stamp already
abbrev pub is_numbered : Number → Option Version → Bool
is_numbered number None = false
is_numbered number (Some v) = number_eq v.number number

abbrev pub with_latest : ℕ → Version → Kept → Kept
with_latest stamp v p = if is_numbered v.number (pick stamp p.versions) then p else with_version v p

-- once an access of the stamp has read the key
abbrev pub raised : ℕ → Kept → Kept
raised stamp p = if p.present then record { read = max p.read stamp; versions = p.versions; spare = p.spare; present = true } else p

-- what is kept of `other` once an access to the key was granted
abbrev pub granted_at : Key → ℕ → Mode → Key → Kept → Kept
granted_at key stamp mode other p = if same_key key other && reads mode then raised stamp p else p

-- once these were
abbrev pub all_granted_at : List Waiter → Key → Kept → Kept
all_granted_at [] key p = p
all_granted_at (w ∷ ws) key p = all_granted_at ws key (granted_at w.key w.stamp w.mode key p)

-- new has at the key what is said, and at every other key what old has
abbrev pub SetsPast : Pasts → Key → Kept → Pasts → Type 0
SetsPast old key p new = (other : Key) → past_at new other ≡ (if same_key key other then p else past_at old other)

-- at most there is more room
pub record Wider (old new : Kept) : Type 0 where
  pub read : new.read ≡ old.read
  pub versions : new.versions ≡ old.versions
  pub spare : old.spare ≤ new.spare
  pub present : old.present ≡ true → new.present ≡ true

abbrev pub Widens : Pasts → Pasts → Type 0
Widens old new = (key : Key) → Wider (past_at old key) (past_at new key)

-- there is room for this many more versions of the key
pub record HasRoom (key : Key) (room : ℕ) (t : Pasts) : Type 0 where
  pub spare : room ≤ (past_at t key).spare
  pub present : (past_at t key).present ≡ true

-- at most versions are gone that none of the waiting requests would read
pub record Trims (rs : List Request) (old new : Kept) : Type 0 where
  pub read : new.read ≡ old.read
  pub present : new.present ≡ old.present
  pub spare : old.spare ≤ new.spare
  pub less : (v : Version) → IsIn v new.versions → IsIn v old.versions
  pub picks : (r : Request) → IsIn r rs → r.waits ≡ true → pick r.stamp new.versions ≡ pick r.stamp old.versions
