-- Runs of Calvin.
use Rattle.std.specs.Prelude.{List}
use Rattle.server_core.specs.Calvin.{says, opening}
use Rattle.server_core.specs.CalvinFits.{Suits}
use Rattle.server_core.specs.Fits.{AllFittingBy}
use Rattle.server_core.specs.Runs.{Reaches}
use Rattle.server_core.specs.Setting.{Setting}
use Rattle.server_core.specs.declared.messages.Entry.{Entry}
use Rattle.server_core.specs.declared.messages.Mail.{Mail}

-- the entries, with what is in flight after them
abbrev pub IsRun : Setting → List Entry → List Mail → Type 0
IsRun s H flight = Reaches (says s) (opening s) H flight

abbrev pub AllFitting : Setting → List Entry → List Mail → Type 0
AllFitting s = AllFittingBy (Suits s)
