-- The committed writes of a key, and the greatest of them below a stamp.
use Rattle.std.specs.Prelude.{ℕ, List, [], ◌∷◌, ◌++◌, filter, nat_lt, Option, Some, None}
use Rattle.deneva_base.specs.declared.keys.Key.{Key}
use Rattle.deneva_base.specs.declared.numbers.Number.{Number}
use Rattle.deneva_base.specs.Rows.{Row, Rows, row_or_empty}
use Rattle.deneva_base.specs.Keys.{loaded_version}
use Rattle.protocol_rules.specs.History.{Ask, Prepare, Commit, Abort, History, yeas}
use Rattle.protocol_rules.specs.Latest.{row_for, writes_in, Version, greater}

abbrev pub version_of : Number → Option Row → List Version
version_of number None = []
version_of number (Some row) = record { number = number; row = row } ∷ []

-- the committed writes of the key
abbrev pub written : History → Key → List Version
written [] key = []
written (Ask who stamp k mode answer ∷ h) key = written h key
written (Prepare who bound writes appends vote ∷ h) key = written h key
written (Commit who number woken ∷ h) key = version_of number (row_for key (writes_in (yeas h) who)) ++ written h key
written (Abort who woken ∷ h) key = written h key

-- the loaded row
abbrev pub start : Rows → Key → Version
start loaded key = record { number = loaded_version; row = row_or_empty (loaded key) }

-- the one of the greatest number
abbrev pub greatest : Version → List Version → Version
greatest v [] = v
greatest v (w ∷ ws) = greater (greatest v ws) w

-- the committed write of the greatest number below the stamp, or the loaded row
abbrev pub below : Rows → History → Key → ℕ → Version
below loaded h key stamp = greatest (start loaded key) (filter (λ v. nat_lt v.number.n stamp) (written h key))
