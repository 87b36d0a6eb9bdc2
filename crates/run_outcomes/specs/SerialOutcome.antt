-- The outcome of a serial execution.
use Rattle.std.specs.Prelude.{[], ◌∷◌, map}
use Rattle.txn_program.specs.declared.serial.SerialRun.{SerialRun}
use Rattle.txn_program.specs.declared.serial.SerialTxn.{SerialTxn}
use Rattle.server_core.specs.declared.outcomes.Decided.{Decided}
use Rattle.server_core.specs.declared.outcomes.Outcome.{Outcome}
use Rattle.server_core.specs.declared.outcomes.RunKind.TheVariants.{Serial}

-- a transaction's number is its id, and its only participant is partition 0
abbrev pub decided_serially : SerialTxn → Decided
decided_serially t =
    record { number = record { n = t.id.0; id = t.id }; verdict = t.verdict; answer = t.answer; participants = 0 ∷ []; reads = t.reads }

-- there is one partition, and nothing is given up or aborted
abbrev pub serial_outcome : SerialRun → Outcome
serial_outcome run =
    record { kind = Serial; parts = 1; decided = map decided_serially run.runs; giveups = []; aborts = []; rows = run.rows }
