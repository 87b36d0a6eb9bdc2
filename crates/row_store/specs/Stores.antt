-- A store as a finite map: at each key that is present it has a version, which is a row with its number.
use Rattle.std.specs.Prelude.{◌≡◌, ℕ, Bool, List, map, is_some, option_map, if◌then◌else◌, refl}
use Rattle.std.specs.declared.option.Option.{Option}
use Rattle.std.specs.declared.option.Option.TheVariants.{None, Some}
use Rattle.std.specs.List.{IsDistinct}
use Rattle.std.specs.FinMap.{FinMap, get, code}
use Rattle.std.specs.Coded.{Coded, code_by, coded×, coded_ℕ}
use Rattle.deneva_base.specs.contracts.keys.Key as key
use Rattle.row_store.specs.contracts.versions.Version as version
use Rattle.deneva_base.specs.Keys.{key_eq, key_cmp, number_lt, loaded_version}
use Rattle.deneva_base.specs.declared.keys.Key.{Key}
use Rattle.deneva_base.specs.declared.numbers.Number.{Number}
use Rattle.deneva_base.specs.declared.rows.Cell.{Cell}
use Rattle.deneva_base.specs.declared.rows.Keyed.{Keyed}
use Rattle.row_store.specs.declared.versions.Version.{Version}

-- what is seen of a store: a version at each key that is present, and for how many more keys there is room
pub record Seen : Type 0 where
  pub versions : FinMap key_cmp Version
  pub spare : ℕ

-- it is stored as the pair of both
abbrev pub seen_code : Coded Seen
seen_code =
    code_by (FinMap key_cmp Version × ℕ) (coded× (code key.the_row.coded version.the_row.coded) coded_ℕ)
    (λ s. (s.versions, s.spare)) (λ p. record { versions = p.0; spare = p.1 }) (λ _. refl)

-- the version that a store has at a key
abbrev pub version_at : Seen → Key → Option Version
version_at s key = get s.versions key

-- whether the key is present
abbrev pub has : Seen → Key → Bool
has s key = is_some (version_at s key)

-- the row at a key
abbrev pub row_in : Seen → Key → Option (List Cell)
row_in s key = option_map (λ v. v.row) (version_at s key)

-- new has v at the key, and at every other key what old has
abbrev pub Sets : Seen → Key → Option Version → Seen → Type 0
Sets old key v new = (other : Key) → version_at new other ≡ (if key_eq key other then v else version_at old other)

-- a row with this number
abbrev pub numbered : Number → List Cell → Version
numbered number row = record { number = number; row = row }

-- a row as it is loaded: its number is (0, 0)
abbrev pub loaded : List Cell → Version
loaded row = numbered loaded_version row

-- the version with another row: its number stays
abbrev pub with_row : List Cell → Version → Version
with_row row v = numbered v.number row

-- the version of the greater number, and the first where the numbers are equal
abbrev pub newer : Version → Version → Version
newer v w = if number_lt v.number w.number then w else v

-- what a key has after a version comes to what it had, where the newer one stays
abbrev pub newest : Option Version → Version → Option Version
newest None w = Some w
newest (Some v) w = Some (newer v w)

-- no two rows have one key
abbrev pub HaveDistinctKeys : List Keyed → Type 0
HaveDistinctKeys rows = IsDistinct key_eq (map (λ r. r.key) rows)
