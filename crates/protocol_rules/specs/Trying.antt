-- Waiters that are tried one after another.
use Rattle.std.specs.Prelude.{List, [], ◌∷◌, map, filter, Bool, if◌then◌else◌}
use Rattle.std.specs.List.{list_any}
use Rattle.deneva_base.specs.declared.numbers.Attempt.{Attempt}
use Rattle.deneva_base.specs.Rows.{Rows}
use Rattle.deneva_base.specs.declared.answers.Wake.{Wake}
use Rattle.protocol_rules.specs.History.{History, Asked, waits}
use Rattle.protocol_rules.specs.Order.{by_rising_stamp}
use Rattle.deneva_base.specs.Lists.{sort}
use Rattle.protocol_rules.specs.Waiting.{holders, holds, wake_of}

-- those of the list that are granted, tried one after another: none of those that hold stops them, nor one granted before
abbrev pub tried : (Asked → Asked → Bool) → List Asked → List Asked → List Asked
tried stops held [] = []
tried stops held (a ∷ as') = if list_any (stops a) held then tried stops held as' else a ∷ tried stops (a ∷ held) as'

-- the waiters of its keys, in rising order of their stamps
abbrev pub to_try : History → Attempt → List Asked
to_try h who = sort by_rising_stamp (filter (λ a. holds h who a.key) (waits h))

-- the wakes of those that are granted
abbrev pub tries : Rows → (Asked → Asked → Bool) → History → History → Attempt → List Wake
tries loaded stops h after who = map (wake_of loaded after) (tried stops (holders after) (to_try h who))
