-- Rows by their keys, and a finite map from keys to rows seen as its rows in key order.
use Rattle.std.specs.Prelude.{List, [], ◌∷◌, map, Bool, if◌then◌else◌, Option, Some, None}
use Rattle.std.specs.List.{list_any}
use Rattle.std.specs.Ordering.{match_ordering}
use Rattle.deneva_base.specs.Keys.{key_eq, key_cmp}
use Rattle.deneva_base.specs.declared.keys.Key.{Key}
use Rattle.deneva_base.specs.declared.rows.Cell.{Cell}
use Rattle.deneva_base.specs.declared.rows.Keyed.{Keyed}

-- the cells of a row
abbrev pub Row : Type 0
Row = List Cell

-- the row of each key that has one
abbrev pub Rows : Type 0
Rows = Key → Option Row

-- the row, and no cells where there is none
abbrev pub row_or_empty : Option Row → Row
row_or_empty None = []
row_or_empty (Some row) = row

-- these rows by their keys, the first where two have one key
abbrev pub row_of : List Keyed → Rows
row_of [] key = None
row_of (r ∷ rows) key = if key_eq r.key key then Some r.row else row_of rows key

-- some row has this key
abbrev pub has_key : List Keyed → Key → Bool
has_key rows key = list_any (λ r. key_eq r.key key) rows

-- the row of a key, and no cells where the key is absent
abbrev pub row_at : List Keyed → Key → List Cell
row_at [] key = []
row_at (r ∷ rows) key = if key_eq r.key key then r.row else row_at rows key

-- the rows with this one in the place of its key
abbrev pub put : List Keyed → Keyed → List Keyed
put [] w = w ∷ []
put (r ∷ rows) w = match_ordering (key_cmp w.key r.key) (w ∷ r ∷ rows) (w ∷ rows) (r ∷ put rows w)

-- the rows after these were put, one after another
abbrev pub put_all : List Keyed → List Keyed → List Keyed
put_all rows [] = rows
put_all rows (w ∷ ws) = put_all (put rows w) ws

-- these rows, of which no two have one key, in key order
abbrev pub in_key_order : List Keyed → List Keyed
in_key_order rows = put_all [] rows

-- the entries of an ordered map as rows with their keys
abbrev pub keyed : Key × List Cell → Keyed
keyed e = record { key = e.0; row = e.1 }

abbrev pub rows_in : List (Key × List Cell) → List Keyed
rows_in entries = map keyed entries

-- rows by their keys, after one row was put, and after these were, one after another
abbrev pub put_row : Rows → Keyed → Rows
put_row rows w key = if key_eq w.key key then Some w.row else rows key

abbrev pub put_rows : Rows → List Keyed → Rows
put_rows rows [] = rows
put_rows rows (w ∷ ws) = put_rows (put_row rows w) ws
