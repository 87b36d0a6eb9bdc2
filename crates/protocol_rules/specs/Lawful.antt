-- What a rule owes: its windows, whom it wakes, and which rows it grants.
use Rattle.std.specs.Prelude.{◌≡◌, ◌⊎◌, [], Some}
use Rattle.deneva_base.specs.declared.keys.Mode.TheVariants.{Put}
use Rattle.deneva_base.specs.Lists.{IsIn}
use Rattle.deneva_base.specs.Rows.{Rows}
use Rattle.deneva_base.specs.Modes.{IsReading}
use Rattle.protocol_rules.specs.History.{History, Grant, Yea, grants, yeas}
use Rattle.protocol_rules.specs.Wakes.{KeepsWakes}
use Rattle.protocol_rules.specs.Windows.{KeepsWindows}
use Rattle.protocol_rules.specs.Rules.{Rule, Obeys}

-- an access that reads was granted the loaded row or one that a vote lists, and a Put no cells
pub record GrantsRow (loaded : Rows) (h : History) (g : Grant) : Type 0 where
  pub reads : IsReading g.mode → (loaded g.key ≡ Some g.row) ⊎ ((y : Yea) × IsIn y (yeas h) × IsIn (record { key = g.key; row = g.row }) y.writes)
  pub put : g.mode ≡ Put → g.row ≡ []

-- of every history that obeys it
pub record Lawful (rule : Rows → Rule) : Type 0 where
  pub wakes : (loaded : Rows) (h : History) → Obeys loaded (rule loaded) h → KeepsWakes h
  pub windows : (loaded : Rows) (h : History) → Obeys loaded (rule loaded) h → KeepsWindows loaded h
  pub rows : (loaded : Rows) (h : History) (g : Grant) → Obeys loaded (rule loaded) h → IsIn g (grants h) → GrantsRow loaded h g
