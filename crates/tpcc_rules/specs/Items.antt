-- Items by their numbers.
use Rattle.std.specs.Prelude.{ℕ, ◌==◌, nat_lt, List, [], ◌∷◌, Bool, true, not, ◌&&◌, Option}
use Rattle.std.specs.List.{find, list_any}
use Rattle.tpcc_rules.specs.declared.programs.Item.{Item}

-- the item of a number, the first where two have one
abbrev pub item_numbered : List Item → ℕ → Option Item
item_numbered items number = find (λ i. i.number == number) items

-- some item has this number
abbrev pub has_item : List Item → ℕ → Bool
has_item items number = list_any (λ i. i.number == number) items

-- no two items have one number
abbrev pub have_own_numbers : List Item → Bool
have_own_numbers [] = true
have_own_numbers (i ∷ items) = not (has_item items i.number) && have_own_numbers items

-- the number is below that of the first item, and each item's number is below the next one's
abbrev pub rise_after : ℕ → List Item → Bool
rise_after number [] = true
rise_after number (i ∷ items) = nat_lt number i.number && rise_after i.number items

-- each item's number is below the next one's
abbrev pub numbers_rise : List Item → Bool
numbers_rise [] = true
numbers_rise (i ∷ items) = rise_after i.number items
