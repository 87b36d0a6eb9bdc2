-- Items in the order of their numbers.
use Rattle.std.specs.Prelude.{ℕ, List, [], ◌∷◌, map}
use Rattle.std.specs.List.{fold}
use Rattle.std.specs.Ordering.{nat_cmp, match_ordering}
use Rattle.tpcc_rules.specs.declared.programs.Item.{Item}
use Rattle.workload_text.specs.declared.reading.Sale.{Sale}

-- an item put in its place by number, for one that has its number
abbrev pub put_item : List Item → Item → List Item
put_item [] i = i ∷ []
put_item (j ∷ items) i = match_ordering (nat_cmp i.number j.number) (i ∷ j ∷ items) (i ∷ items) (j ∷ put_item items i)

-- these items, of which no two have one number, in the order of their numbers
abbrev pub by_number : List Item → List Item
by_number items = fold put_item [] items

-- the entries of an ordered map from numbers as items
abbrev pub numbered : ℕ × Sale → Item
numbered e = record { number = e.0; price = e.1.price; original = e.1.original }

abbrev pub items_in : List (ℕ × Sale) → List Item
items_in entries = map numbered entries
