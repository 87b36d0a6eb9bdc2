-- What an access does with its row.
use Rattle.std.specs.Prelude.{◌≢◌, Bool, true, false}
use Rattle.deneva_base.specs.declared.keys.Mode.{Mode}
use Rattle.deneva_base.specs.declared.keys.Mode.TheVariants.{Read, Update, Put}

-- an access reads unless it is a Put
abbrev pub reads : Mode → Bool
reads Read = true
reads Update = true
reads Put = false

-- an access writes unless it is a Read
abbrev pub writes : Mode → Bool
writes Read = false
writes Update = true
writes Put = true

-- the same as facts
abbrev pub IsReading : Mode → Type 0
IsReading m = m ≢ Put

abbrev pub IsWriting : Mode → Type 0
IsWriting m = m ≢ Read
