-- What a store begins with, and the last version of a key.
use Rattle.std.specs.Prelude.{◌≡◌, [], ◌∷◌, Option, Some, option_map, ◌≤◌}
use Rattle.deneva_base.specs.declared.keys.Key.{Key}
use Rattle.deneva_base.specs.Keys.{loaded_version}
use Rattle.deneva_base.specs.Rows.{Rows}
use Rattle.protocol_rules.specs.History.{Ask, Prepare, Commit, Abort, History, yeas}
use Rattle.protocol_rules.specs.Latest.{Version, row_for}
use Rattle.protocol_rules.specs.Leaving.{later, left_in}
use Rattle.row_store.specs.Stores.{Seen, version_at}
use Rattle.row_store.specs.declared.versions.Version.{Version as StoredVersion}

-- the store has loaded rows alone, of the tables 0 to 4
abbrev pub IsLoadedStore : Seen → Type 0
IsLoadedStore store = (key : Key) (v : StoredVersion) → version_at store key ≡ Some v → (v.number ≡ loaded_version) × (key.table ≤ 4)

-- the version that a key has after the history, call by call
abbrev pub last : Rows → History → Key → Option Version
last loaded [] key = option_map (λ row. record { number = loaded_version; row = row }) (loaded key)
last loaded (Ask who stamp k mode answer ∷ h) key = last loaded h key
last loaded (Prepare who bound writes appends vote ∷ h) key = last loaded h key
last loaded (Commit who number woken ∷ h) key = later (last loaded h key) number (row_for key (left_in (yeas h) who))
last loaded (Abort who woken ∷ h) key = last loaded h key
