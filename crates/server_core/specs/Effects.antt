-- The rows that an effect leaves: those that it writes and appends, and none where it rolls back.
use Rattle.std.specs.Prelude.{List, [], ◌++◌}
use Rattle.deneva_base.specs.declared.rows.Keyed.{Keyed}
use Rattle.tpcc_rules.specs.declared.effects.Verdict.{Verdict}
use Rattle.tpcc_rules.specs.declared.effects.Verdict.TheVariants.{Commit, Rollback}
use Rattle.tpcc_rules.specs.declared.effects.Effect.{Effect}

abbrev pub lasting : Verdict → List Keyed → List Keyed
lasting Commit rows = rows
lasting (Rollback reason) rows = []

abbrev pub written : Effect → List Keyed
written e = lasting e.verdict e.writes

abbrev pub appended : Effect → List Keyed
appended e = lasting e.verdict e.appends

abbrev pub leaves : Effect → List Keyed
leaves e = written e ++ appended e
