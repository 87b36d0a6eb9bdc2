-- What comes of every run of Calvin: the transactions executed one at a time in the global order.
use Rattle.std.specs.Prelude.{ℕ, [], map}
use Rattle.deneva_base.specs.declared.config.Config.{Config}
use Rattle.deneva_base.specs.declared.config.Protocol.TheVariants.{Calvin}
use Rattle.txn_program.specs.Serial.{serial}
use Rattle.txn_program.specs.declared.programs.Workload.{Workload}
use Rattle.txn_program.specs.declared.serial.SerialTxn.{SerialTxn}
use Rattle.server_core.specs.GlobalOrder.{order, number}
use Rattle.server_core.specs.Setting.{Setting, setting, participants_for}
use Rattle.server_core.specs.declared.outcomes.Decided.{Decided}
use Rattle.server_core.specs.declared.outcomes.Outcome.{Outcome}
use Rattle.server_core.specs.declared.outcomes.RunKind.TheVariants.{Under}

-- a configuration under Calvin, which tries each transaction once
abbrev pub in_order : ℕ → Config
in_order parts = record { protocol = Calvin; parts = parts; attempts = 1; limit = 1 }

-- what a transaction did at its turn, with its number in the global order
abbrev pub ordered_line : Setting → SerialTxn → Decided
ordered_line s t = record { number = number s t.id; verdict = t.verdict; answer = t.answer; participants = participants_for s t.id; reads = t.reads }

-- the outcome over so many partitions of the serial execution in the global order: each transaction is decided, with its
-- number in that order
abbrev pub in_global_order : ℕ → Workload → Outcome
in_global_order parts w =
    let s = setting (in_order parts) w in
    let run = serial w (order s) in
    record { kind = Under Calvin; parts = parts; decided = map (ordered_line s) run.runs; giveups = []; aborts = []; rows = run.rows }
