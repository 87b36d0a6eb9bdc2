use Rattle.std.proofs.Common.{◌≡◌, ℕ, ◌++◌, ◌∷◌, [], List, refl, sym, ap, ◌∙◌, subst, append-nil}
use Rattle.std.proofs.lemmas.Result.{on_ok_weaker}
use Rattle.server_core.specs.Calvin.{says}
use Rattle.server_core.specs.CalvinFits.{Suits}
use Rattle.server_core.specs.Roles.{Role, FitsRole, said_by}
use Rattle.server_core.specs.Setting.{setting}
use Rattle.server_core.specs.declared.messages.Msg.{Msg}
use Rattle.server_core.specs.declared.messages.Msg.TheVariants.{Tick, Rows}
use Rattle.server_core.specs.Roles.{role_of, setting_of}
use Rattle.calvin_sched.specs.Standing.{CalvinStands}
use Rattle.calvin_sched.proofs.Nodes.{suits_of, said_is, stands_tick, told_only}
use Rattle.calvin_sched.proofs.node.CalvinNodeHandles.handle.Goals as goal

pub returns-in-Tick-clause-says : goal.returns-in-Tick-clause-says
returns-in-Tick-clause-says c =
    on_ok_weaker c.tick.result
    (λ told ms stands fits.
    let n = c.args.self.now in
    told ms
    ∙ ap (λ (r : Role). c.args.out.now.mails ++ says (setting r.config r.work) r.part (Tick c.in-Tick.epoch ∷ ms)) stands.sequencer
    ∙ ap (λ l. c.args.out.now.mails ++ l) (said_is n ms (Tick c.in-Tick.epoch ∷ ms) stands ∙ ap (λ (m : Msg). said_by (role_of n.role) (m ∷ ms)) (sym c.in-Tick.is)))
    c.tick.ensures.ok

pub returns-in-Tick-clause-stands : goal.returns-in-Tick-clause-stands
returns-in-Tick-clause-stands c =
    on_ok_weaker c.tick.result
    (λ told ms stands fits.
    let n = c.args.self.now in
    let fits' : FitsRole (role_of n.role) c.args._from (Tick c.in-Tick.epoch) ms = subst (λ (m : Msg). FitsRole (role_of n.role) c.args._from m ms) c.in-Tick.is fits in
    subst (λ (m : Msg). CalvinStands n (m ∷ ms)) (sym c.in-Tick.is) (stands_tick n ms c.in-Tick.epoch stands (c.args._from, suits_of n ms c.args._from (Tick c.in-Tick.epoch) stands fits')))
    c.tick.ensures.ok

pub returns-in-Rows-clause-stands : goal.returns-in-Rows-clause-stands
returns-in-Rows-clause-stands c =
    on_ok_weaker c.hear_rows.result
    (λ heard ms stands fits.
    let n = c.args.self.now in
    let m : Msg = Rows c.in-Rows.id c.in-Rows.part c.in-Rows.rows in
    let suits = suits_of n ms c.args._from m stands (subst (λ (m' : Msg). FitsRole (role_of n.role) c.args._from m' ms) c.in-Rows.is fits) in
    subst (λ (m' : Msg). CalvinStands c.hear_rows.new.self (m' ∷ ms)) (sym c.in-Rows.is) (heard ms stands (subst (λ (f : ℕ). Suits (setting_of n.role) n.role.part f m ms) (sym suits.0) suits)))
    c.hear_rows.ensures.stands

pub returns-in_default : goal.returns-in_default
returns-in_default c =
    let n = c.args.self.now in
    let other : (ms : List Msg) → CalvinStands n ms → FitsRole (role_of n.role) c.args._from c.args.msg.now ms → (says (setting_of n.role) n.role.part (c.args.msg.now ∷ ms) ≡ []) × CalvinStands n (c.args.msg.now ∷ ms)
    = λ ms stands fits. told_only n ms c.args._from c.args.msg.now stands (suits_of n ms c.args._from c.args.msg.now stands fits) c.in_default.not-Tick c.in_default.not-Batch c.in_default.not-Rows in
    record {
      role = refl;
      says = λ ms stands fits. sym (ap (λ l. c.args.out.now.mails ++ l) (sym (said_is n ms (c.args.msg.now ∷ ms) stands) ∙ (other ms stands fits).0) ∙ append-nil c.args.out.now.mails);
      stands = λ ms stands fits. (other ms stands fits).1;
      same_mails = tt;
      same = tt;
    }
