-- What the run of a workload is, and what came of it.
use Rattle.std.specs.Prelude.{◌≡◌, reverse}
use Rattle.deneva_base.specs.declared.config.Config.{Config}
use Rattle.deneva_base.specs.declared.config.Protocol.TheVariants.{Calvin}
use Rattle.txn_program.specs.declared.programs.Workload.{Workload}
use Rattle.server_core.specs.Atomic.{IsAtomic}
use Rattle.server_core.specs.GlobalOutcome.{in_global_order}
use Rattle.server_core.specs.IsSerial.{IsSerial}
use Rattle.server_core.specs.Named.{AllNamed}
use Rattle.server_core.specs.Outcome.{outcome}
use Rattle.server_core.specs.Picks.{picked}
use Rattle.server_core.specs.ReportOrder.{InReportOrder}
use Rattle.server_core.specs.Says.{IsQuiet}
use Rattle.server_core.specs.Setting.{setting}
use Rattle.server_core.specs.Told.{IsTold}
use Rattle.server_core.specs.declared.schedules.Schedule.{Schedule}
use Rattle.replay.specs.declared.runs.Ran.{Ran}

-- the run that the schedule picks, which has nothing in flight after it, and its outcome: its decided transactions,
-- executed one at a time in the order of their numbers, give each its reads and the final rows; each transaction is decided
-- at all its participants or at none, and its line tells so; each abort names what its protocol's rule found there; the
-- lines stand in the order of a report; and under Calvin, whatever the schedule, the outcome is that of the global order
pub record Replays (c : Config) (w : Workload) (schedule : Schedule) (ran : Ran) : Type 0 where
  pub history : ran.history ≡ reverse (picked c w schedule)
  pub quiet : IsQuiet c w (picked c w schedule)
  pub outcome : ran.outcome ≡ outcome c w (picked c w schedule)
  pub serial : IsSerial w ran.outcome
  pub in_order : InReportOrder ran.outcome
  pub told : IsTold (setting c w) (picked c w schedule) ran.outcome
  pub atomic : IsAtomic c w (picked c w schedule)
  pub named : AllNamed c w (picked c w schedule) ran.outcome
  pub ordered : c.protocol ≡ Calvin → ran.outcome ≡ in_global_order c.parts w
