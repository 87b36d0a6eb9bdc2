-- All that the laws of runs ask of a rule.
use Rattle.std.specs.Prelude.{ℕ, ◌≤◌}
use Rattle.deneva_base.specs.Rows.{Rows}
use Rattle.protocol_rules.specs.Growth.{Grows}
use Rattle.protocol_rules.specs.Lawful.{Lawful}
use Rattle.protocol_rules.specs.Naming.{Naming}
use Rattle.protocol_rules.specs.Rules.{Rule}
use Rattle.protocol_rules.specs.Waits.{WaitsLaw}

pub record Served (rule : Rows → Rule) : Type 0 where
  -- its windows, whom it wakes and which rows it grants
  pub lawful : Lawful rule
  -- which causes it names
  pub naming : Naming rule
  -- what its waiters wait for
  pub waits : WaitsLaw rule
  -- one call raises the numbers by at most the span, which is short enough for all numbers of a run
  pub span : ℕ
  pub short : span ≤ 8192
  pub grows : Grows rule span
