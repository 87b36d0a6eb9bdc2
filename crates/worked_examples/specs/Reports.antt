-- What a run by a schedule reports.
use Rattle.std.specs.Prelude.{ℕ, List}
use Rattle.deneva_base.specs.declared.config.Config.{Config}
use Rattle.report.specs.ReportText.{report_text}
use Rattle.server_core.specs.Outcome.{outcome}
use Rattle.server_core.specs.Picks.{Progress, begun, deliveries, picked, position}
use Rattle.server_core.specs.Says.{says}
use Rattle.server_core.specs.declared.schedules.Schedule.{Schedule}
use Rattle.txn_program.specs.declared.programs.Workload.{Workload}

abbrev pub report_of : Config → Workload → Schedule → List ℕ
report_of c w schedule = report_text (outcome c w (picked c w schedule))

-- what is there after so many deliveries
abbrev pub after : ℕ → Config → Workload → Schedule → Progress
after n c w schedule = deliveries (says c w) (position schedule) 0 n (begun c w)
