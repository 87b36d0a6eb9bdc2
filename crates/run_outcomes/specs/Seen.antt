-- How what was found in a history is seen.
use Rattle.std.specs.Prelude.{ℕ, Option, Some, None}
use Rattle.deneva_base.specs.declared.answers.Vote.{Vote}
use Rattle.deneva_base.specs.declared.causes.Cause.{Cause}
use Rattle.server_core.specs.Aborts as aborts
use Rattle.server_core.specs.Coordinator.{lo_of, hi_of}
use Rattle.run_outcomes.specs.declared.ballots.End.{End}
use Rattle.run_outcomes.specs.declared.ballots.End.TheVariants.{Lo, Hi}
use Rattle.run_outcomes.specs.declared.ballots.No.{No}
use Rattle.run_outcomes.specs.declared.received.Refusal.{Refusal}

abbrev pub refusal_of : Option Refusal → Option aborts.Refusal
refusal_of None = None
refusal_of (Some r) = Some (record { key = r.key; cause = r.cause })

abbrev pub no_of : Option No → Option (ℕ × Cause)
no_of None = None
no_of (Some x) = Some (x.part, x.cause)

abbrev pub end_of : End → Vote → ℕ
end_of Lo = lo_of
end_of Hi = hi_of
