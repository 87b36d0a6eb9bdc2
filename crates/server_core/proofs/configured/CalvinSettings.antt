-- Every configuration within its ranges and every valid workload meet what Calvin's runs ask of a setting.
use Rattle.deneva_base.specs.declared.config.Config.{Config}
use Rattle.txn_program.specs.InWorkload.{effect_in}
use Rattle.txn_program.specs.Valid.{IsValid}
use Rattle.txn_program.specs.declared.programs.Workload.{Workload}
use Rattle.txn_program.proofs.WorkloadLaws as law
use Rattle.server_core.specs.CalvinProper.{Valid, Forms, Limits}
use Rattle.server_core.specs.Configs.{IsConfig}
use Rattle.server_core.specs.Setting.{setting}
use Rattle.server_core.proofs.configured.Workloads as workload

module _ (c : Config) (w : Workload) (v : IsValid w) where
  pub valid : IsConfig c → Valid (setting c w)
  valid config = record {
    parts = config.some_parts;
    once = workload.once c w v;
    some = law.some_accesses w v;
    writes = λ x rows r i l j. law.written_access w v x rows r (workload.lasts (effect_in w x rows).verdict _ r j);
    appends = λ x rows r i l j.
        let listed = workload.lasts (effect_in w x rows).verdict _ r j in
        (law.append_at_participant w v x rows r c.parts config.some_parts listed, λ y a k m. law.append_unaccessed w v x rows r y a listed m);
  }

  pub forms : Forms (setting c w)
  forms = record {
    loads = λ x a i j. let there = workload.loads c w v x a j in (there.0, there.1, workload.fine c w v a.key there.0 there.1);
    effects = λ x rows r i keys fine j. law.written_well_formed w v x rows r (keys, fine) (workload.lasts (effect_in w x rows).verdict _ r j);
  }

  pub limits : IsConfig c → Limits (setting c w)
  limits config = record { parts = config.few_parts; ids = law.few_ids w v }
