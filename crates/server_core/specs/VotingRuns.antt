-- Runs of a voting protocol.
use Rattle.std.specs.Prelude.{ℕ, ◌^◌, ◌<◌, List, length}
use Rattle.deneva_base.specs.Lists.{IsIn}
use Rattle.server_core.specs.Fits.{FitsBy, AllFittingBy}
use Rattle.server_core.specs.Runs.{Reaches}
use Rattle.server_core.specs.Setting.{Setting}
use Rattle.server_core.specs.Small.{SmallMsg}
use Rattle.server_core.specs.Voting.{says, opening}
use Rattle.server_core.specs.VotingFits.{Suits}
use Rattle.server_core.specs.declared.messages.Entry.{Entry}
use Rattle.server_core.specs.declared.messages.Mail.{Mail}
use Rattle.server_core.specs.declared.messages.Msg.{Msg}

-- the entries, with what is in flight after them
abbrev pub IsRun : Setting → List Entry → List Mail → Type 0
IsRun s H flight = Reaches (says s) (opening s) H flight

abbrev pub Fits : Setting → ℕ → ℕ → Msg → List Msg → Type 0
Fits s = FitsBy (Suits s)

abbrev pub AllFitting : Setting → List Entry → List Mail → Type 0
AllFitting s = AllFittingBy (Suits s)

-- fewer than 2^32 entries, whose numbers are below 2^48
pub record Small (H : List Entry) (flight : List Mail) : Type 0 where
  pub short : length H < 2 ^ 32
  pub flying : (x : Mail) → IsIn x flight → SmallMsg x.msg
  pub handled : (e : Entry) → IsIn e H → SmallMsg e.msg
