-- The greatest committed write of a key.
use Rattle.std.specs.Prelude.{List, [], ◌∷◌, Bool, Option, Some, None, if◌then◌else◌}
use Rattle.std.specs.List.{list_any}
use Rattle.deneva_base.specs.declared.keys.Key.{Key}
use Rattle.deneva_base.specs.declared.numbers.Attempt.{Attempt}
use Rattle.deneva_base.specs.declared.numbers.Number.{Number}
use Rattle.deneva_base.specs.declared.keys.Mode.{Mode}
use Rattle.deneva_base.specs.Rows.{Row, Rows, row_or_empty, row_of}
use Rattle.deneva_base.specs.Keys.{loaded_version, attempt_eq, number_lt}
use Rattle.deneva_base.specs.Modes.{reads}
use Rattle.deneva_base.specs.declared.rows.Keyed.{Keyed}
use Rattle.protocol_rules.specs.History.{Ask, Prepare, Commit, Abort, History, Yea, yeas, ended}

abbrev pub row_for : Key → List Keyed → Option Row
row_for key ws = row_of ws key

abbrev pub writes_in : List Yea → Attempt → List Keyed
writes_in [] who = []
writes_in (y ∷ ys) who = if attempt_eq y.who who then y.writes else writes_in ys who

pub record Version : Type 0 where
  pub number : Number
  pub row : Row

-- the version of the greater number, and the first where the numbers are equal
abbrev pub greater : Version → Version → Version
greater v w = if number_lt v.number w.number then w else v

abbrev pub newer : Version → Number → Option Row → Version
newer old number None = old
newer old number (Some row) = greater old (record { number = number; row = row })

-- the greatest committed write of the key, or the loaded row
abbrev pub latest : Rows → History → Key → Version
latest loaded [] key = record { number = loaded_version; row = row_or_empty (loaded key) }
latest loaded (Ask who stamp k mode answer ∷ h) key = latest loaded h key
latest loaded (Prepare who bound writes appends vote ∷ h) key = latest loaded h key
latest loaded (Commit who number woken ∷ h) key = newer (latest loaded h key) number (row_for key (writes_in (yeas h) who))
latest loaded (Abort who woken ∷ h) key = latest loaded h key

abbrev pub has_ended : History → Attempt → Bool
has_ended h who = list_any (attempt_eq who) (ended h)

-- what an access is granted where the version is found: a Put has no cells and version (0, 0)
abbrev pub seen : Mode → Version → Version
seen mode v = if reads mode then v else record { number = loaded_version; row = [] }
