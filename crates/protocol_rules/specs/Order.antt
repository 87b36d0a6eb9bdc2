-- The order in which the wakes of one call are listed.
use Rattle.std.specs.Prelude.{◌≡◌, ⊤, true, List, [], ◌∷◌, Bool, ◌&&◌, ◌||◌, nat_lt}
use Rattle.deneva_base.specs.Lists.{IsIn}
use Rattle.deneva_base.specs.Keys.{key_eq, key_lt}
use Rattle.protocol_rules.specs.History.{Asked}

-- by key, and within a key by falling stamp
abbrev pub by_falling_stamp : Asked → Asked → Bool
by_falling_stamp a b = key_lt a.key b.key || (key_eq a.key b.key && nat_lt b.stamp a.stamp)

-- by key, and within a key by rising stamp
abbrev pub by_rising_stamp : Asked → Asked → Bool
by_rising_stamp a b = key_lt a.key b.key || (key_eq a.key b.key && nat_lt a.stamp b.stamp)

-- each stands before all that follow it
abbrev pub Sorted : (Asked → Asked → Bool) → List Asked → Type 0
Sorted before [] = ⊤
Sorted before (a ∷ as') = ((b : Asked) → IsIn b as' → before a b ≡ true) × Sorted before as'
