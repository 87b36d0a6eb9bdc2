-- A run of Calvin over two partitions, in two epochs.
use Rattle.std.specs.Prelude.{ℕ, List, [], ◌∷◌}
use Rattle.deneva_base.specs.declared.config.Config.{Config}
use Rattle.deneva_base.specs.declared.config.Protocol.TheVariants.{Calvin}
use Rattle.deneva_base.specs.declared.numbers.TxnId.{TxnId}
use Rattle.deneva_base.specs.declared.rows.Keyed.{Keyed}
use Rattle.server_core.specs.Picks.{Progress}
use Rattle.server_core.specs.Runs.{heard}
use Rattle.server_core.specs.Setting.{Setting, setting}
use Rattle.server_core.specs.declared.messages.Msg.{Msg}
use Rattle.server_core.specs.declared.messages.Msg.TheVariants.{Rows}
use Rattle.server_core.specs.declared.schedules.Schedule.TheVariants.{Fifo}
use Rattle.worked_examples.specs.Reports.{after}
use Rattle.worked_examples.specs.Workloads.{over, two_epochs}

abbrev pub by_calvin : Config
by_calvin = over Calvin 2

abbrev pub its_setting : Setting
its_setting = setting by_calvin two_epochs

-- what is there after so many deliveries, and what node p has handled then
abbrev pub run_after : ℕ → Progress
run_after n = after n by_calvin two_epochs Fifo

abbrev pub handled_after : ℕ → ℕ → List Msg
handled_after n p = heard p (run_after n).entries

abbrev pub nth : ℕ → TxnId
nth n = record { 0 = n }

-- transaction 1 reads one row at each partition
abbrev pub first_read : ℕ → Keyed → Msg
first_read p row = Rows (nth 1) p (row ∷ [])
