use Rattle.std.proofs.Common.{◌≡◌, ℕ, sym, ap, ap₂, ◌∙◌, ◌*◌, refl, map, length, replicate, Option, None, List}
use Rattle.deneva_base.specs.declared.numbers.TxnId.{TxnId}
use Rattle.txn_program.specs.Serial.{all_ids}
use Rattle.server_core.specs.CalvinProper.{Valid}
use Rattle.server_core.specs.Roles.{Role}
use Rattle.server_core.specs.GlobalOrder.{epochs, number}
use Rattle.server_core.specs.Setting.{Setting, setting, participants_for}
use Rattle.server_core.proofs.configured.CalvinSettings as calvin
use Rattle.server_core.specs.Roles.{role_of, setting_of}
use Rattle.calvin_sched.proofs.Nodes.{batches_first, locks_first, arrivals_first, versions_first}
use Rattle.calvin_sched.proofs.node.CalvinNodeServer.begin.Goals as goal

pub returns-clause-stands : goal.returns-clause-stands
returns-clause-stands c =
    let a = c.new-role.result in
    let s : Setting = setting_of a in
    let v : Valid s = calvin.valid a.config a.work.now a.valid a.ranges in
    let same : s ≡ setting c.args.config c.args.work.now = ap₂ setting c.new-role.ensures.config c.new-role.ensures.work in
    let role : role_of a ≡ record { config = c.args.config; work = c.args.work.now; part = c.args.part } = λ i. record { config = c.new-role.ensures.config i; work = c.new-role.ensures.work i; part = c.new-role.ensures.part i } in
    let count : c.epochs.result * c.from.result ≡ epochs s * a.config.parts = ap₂ (λ (m n : ℕ). m * n) (c.epochs.ensures c.args.config refl ∙ ap epochs (sym same)) (c.from.ensures ∙ ap (λ (r : Role). r.config.parts) (sym role)) in
    record {
      ordered = ap (λ (r : Role). r.config.protocol) role ∙ c.requires.protocol;
      sequencer = c.in_ok-begin.ensures;
      fit = tt;
      numbers = c.in_ok-numbers_of.ensures c.args.config refl ∙ ap (λ (r : Role). map (number (setting r.config r.work)) (all_ids r.work)) (sym role);
      counts = c.in_ok-participant_counts.ensures c.args.config refl ∙ ap (λ (r : Role). map (λ x. length (participants_for (setting r.config r.work) x)) (all_ids r.work)) (sym role);
      batches = batches_first s v a.part c.in_ok-begin-2.field-0 (c.in_ok-begin-2.ensures.0 ∙ ap (λ (n : ℕ). replicate {A = Option (List TxnId)} n None) count) c.in_ok-begin-2.ensures.1;
      locks = locks_first s v a.part c.new.result c.new.ensures;
      arrivals = arrivals_first s v a.part c.new-2.result c.new-2.ensures;
      versions = versions_first s v a.part c.in_ok-store_of.field-0 c.in_ok-store_of.ensures;
    }
