-- The waits laws: of NO_WAIT and MAAT, of WAIT_DIE, and of TIMESTAMP and MVCC.
use Rattle.std.specs.Prelude.{◌≡◌, ◌⊎◌, ◌<◌}
use Rattle.deneva_base.specs.Lists.{IsIn}
use Rattle.deneva_base.specs.Modes.{IsReading, IsWriting}
use Rattle.protocol_rules.specs.History.{History, Asked, Grant, grants, waits, IsUnended, Conflict}
use Rattle.deneva_base.specs.Rows.{Rows}
use Rattle.protocol_rules.specs.Rules.{Rule, Obeys}

-- under NO_WAIT and MAAT
abbrev pub NothingWaits : History → Type 0
NothingWaits h = (a : Asked) → IsIn a (waits h) → ⊥

-- under WAIT_DIE each waiter conflicts with an owner of greater stamp, or has a waiter of greater stamp on its key
abbrev pub WaitsForYounger : History → Type 0
WaitsForYounger h =
    (a : Asked)
    → IsIn a (waits h)
    → ((g : Grant) × IsIn g (grants h) × IsUnended h g.who × Conflict g.who g.key g.mode a.who a.key a.mode × (a.stamp < g.stamp)) ⊎ ((b : Asked) × IsIn b (waits h) × (b.key ≡ a.key) × (a.stamp < b.stamp))

-- under TIMESTAMP and MVCC each waiter reads, and an unended attempt of smaller stamp was granted a writing access to its key
abbrev pub WaitsForWriter : History → Type 0
WaitsForWriter h =
    (a : Asked)
    → IsIn a (waits h)
    → IsReading a.mode × ((g : Grant) × IsIn g (grants h) × IsUnended h g.who × (g.key ≡ a.key) × IsWriting g.mode × (g.stamp < a.stamp))

-- what a rule owes: one of these laws, under which a quiet run leaves nothing undecided
pub data WaitsLaw (rule : Rows → Rule) : Type 0 where
  Nothing : (law : (loaded : Rows) (h : History) → Obeys loaded (rule loaded) h → NothingWaits h) → WaitsLaw rule
  ForYounger : (law : (loaded : Rows) (h : History) → Obeys loaded (rule loaded) h → WaitsForYounger h) → WaitsLaw rule
  ForWriter : (law : (loaded : Rows) (h : History) → Obeys loaded (rule loaded) h → WaitsForWriter h) → WaitsLaw rule
