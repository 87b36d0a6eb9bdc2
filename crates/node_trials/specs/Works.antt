-- A small workload.
use Rattle.std.specs.Prelude.{ℕ, List, [], ◌∷◌, ◌++◌, map}
use Rattle.deneva_base.specs.declared.rows.Cell.TheVariants.{Text}
use Rattle.deneva_base.specs.declared.rows.Keyed.{Keyed}
use Rattle.deneva_base.specs.declared.config.Protocol.{Protocol}
use Rattle.deneva_base.specs.declared.numbers.Attempt.{Attempt}
use Rattle.server_core.specs.Roles.{Role}
use Rattle.server_core.specs.declared.messages.Msg.{Msg}
use Rattle.server_core.specs.declared.messages.Msg.TheVariants.{Start, Granted, Refused, Yes, No, Done, Undone}
use Rattle.deneva_base.specs.declared.causes.Cause.{Cause}
use Rattle.deneva_base.specs.declared.causes.Cause.TheVariants.{Held}
use Rattle.node_trials.specs.declared.steps.Step.{Step}
use Rattle.txn_program.specs.Transactions.{ycsb_key}
use Rattle.txn_program.specs.declared.programs.Program.TheVariants.{Ycsb}
use Rattle.txn_program.specs.declared.programs.WorkKind.TheVariants as kinds
use Rattle.txn_program.specs.declared.programs.Workload.{Workload}
use Rattle.txn_program.specs.declared.programs.YcsbAct.TheVariants.{Update}
use Rattle.txn_program.specs.declared.programs.YcsbStep.{YcsbStep}

abbrev pub trial_row : ℕ → Keyed
trial_row n = record { key = ycsb_key n; row = Text (97 ∷ []) ∷ [] }

abbrev pub trial_step : ℕ → YcsbStep
trial_step n = record { key = n; act = Update (record { field = 0; text = 120 ∷ [] }) }

abbrev pub trial_work : Workload
trial_work = record {
  load = record { kind = kinds.Ycsb; fields = 1; rows = trial_row 0 ∷ trial_row 1 ∷ trial_row 2 ∷ []; items = [] };
  programs = Ycsb (map trial_step (0 ∷ 1 ∷ 2 ∷ [])) ∷ Ycsb (map trial_step (1 ∷ 0 ∷ [])) ∷ Ycsb (map trial_step (2 ∷ [])) ∷ [];
}

abbrev pub trial_role : Protocol → Role
trial_role protocol = record { config = record { protocol = protocol; parts = 2; attempts = 2; limit = 1 }; work = trial_work; part = 0 }

abbrev pub first_attempt : Attempt
first_attempt = record { txn = record { 0 = 1 }; turn = 1 }

abbrev pub granted_step : ℕ → ℕ → Step
granted_step from n = record { from = from; msg = Granted first_attempt (ycsb_key n) (Text (97 ∷ []) ∷ []) (record { n = 0; id = record { 0 = 0 } }) 0 }

abbrev pub sent : ℕ → Msg → Step
sent from msg = record { from = from; msg = msg }

abbrev pub granted_twice : List Step
granted_twice = sent 0 (Start first_attempt) ∷ granted_step 0 0 ∷ granted_step 1 1 ∷ []

abbrev pub asked_steps : List Step
asked_steps = granted_twice ++ granted_step 0 2 ∷ []

abbrev pub held : Cause
held = Held (ycsb_key 0) (record { txn = record { 0 = 3 }; turn = 1 })

-- the windows meet from 5 to 9
abbrev pub meeting_steps : List Step
meeting_steps = sent 0 (Yes first_attempt 0 1 9) ∷ sent 1 (Yes first_attempt 1 5 12) ∷ sent 0 (Done first_attempt 0) ∷ sent 1 (Done first_attempt 1) ∷ []

-- they do not; then the second attempt starts
abbrev pub apart_steps : List Step
apart_steps =
    sent 0 (Yes first_attempt 0 1 4) ∷ sent 1 (Yes first_attempt 1 5 9) ∷ sent 0 (Undone first_attempt 0) ∷ sent 1 (Undone first_attempt 1)
    ∷ sent 0 (Start (record { txn = record { 0 = 1 }; turn = 2 })) ∷ []

abbrev pub one_no_steps : List Step
one_no_steps = sent 0 (Yes first_attempt 0 1 9) ∷ sent 1 (No first_attempt 1 held) ∷ []

abbrev pub two_noes_steps : List Step
two_noes_steps = sent 0 (No first_attempt 0 held) ∷ sent 1 (No first_attempt 1 held) ∷ []

-- the third access is refused
abbrev pub refused_steps : List Step
refused_steps = granted_twice ++ sent 0 (Refused first_attempt (ycsb_key 2) held) ∷ []
