-- Whose row a history leaves.
use Rattle.std.specs.Prelude.{◌≡◌, false, Some}
use Rattle.deneva_base.specs.declared.keys.Key.{Key}
use Rattle.deneva_base.specs.Keys.{number_lt}
use Rattle.deneva_base.specs.Lists.{IsIn}
use Rattle.deneva_base.specs.Rows.{Row}
use Rattle.protocol_rules.specs.History.{History, Decided, yeas, decided}
use Rattle.protocol_rules.specs.Latest.{row_for}
use Rattle.protocol_rules.specs.Leaving.{left_in}

-- the committed attempt leaves this row for the key
abbrev pub Leaves : History → Key → Decided → Row → Type 0
Leaves h key d row = IsIn d (decided h) × (row_for key (left_in (yeas h) d.who) ≡ Some row)

-- one leaves this row, and none of a greater number leaves one
abbrev pub IsGreatestLeft : History → Key → Row → Type 0
IsGreatestLeft h key row = (d : Decided) × Leaves h key d row × ((e : Decided) (r : Row) → Leaves h key e r → number_lt d.number e.number ≡ false)
