-- What an effect leaves at a partition is what is left of it there.
use Rattle.std.proofs.Common.{◌≡◌, ℕ, ◌++◌, eqb, refl, sym}
use Rattle.std.proofs.lemmas.List.Elements.{filter-append}
use Rattle.deneva_base.specs.Partitions.{partition_of}
use Rattle.deneva_base.specs.declared.rows.Keyed.{Keyed}
use Rattle.txn_program.specs.Transactions.{effect_at}
use Rattle.tpcc_rules.specs.declared.effects.Effect.{Effect}
use Rattle.tpcc_rules.specs.declared.effects.Verdict.{Verdict}
use Rattle.tpcc_rules.specs.declared.effects.Verdict.TheVariants.{Commit, Rollback}
use Rattle.server_core.specs.Coordinator.{at_part}
use Rattle.server_core.specs.Effects.{lasting, leaves}

pub leaves_at : (parts p : ℕ) (e : Effect) → leaves (effect_at parts p e) ≡ at_part parts p (leaves e)
leaves_at parts p e = go e.verdict
  where
    go : (v : Verdict) → lasting v (at_part parts p e.writes) ++ lasting v (at_part parts p e.appends) ≡ at_part parts p (lasting v e.writes ++ lasting v e.appends)
    go Commit = sym (filter-append (λ (r : Keyed). eqb (partition_of r.key parts) p) e.writes e.appends)
    go (Rollback reason) = refl
