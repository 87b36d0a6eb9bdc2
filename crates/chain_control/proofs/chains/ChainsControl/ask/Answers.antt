use Rattle.std.proofs.Common.{sym, ◌∙◌, ◌∷◌, subst}
use Rattle.std.proofs.lemmas.Result.{on_err_weaker, IfOk-weaker}
use Rattle.protocol_rules.specs.History.{Ask}
use Rattle.deneva_base.specs.declared.answers.Answer.{Answer}
use Rattle.chain_control.specs.Standing.{Stands}
use Rattle.shelf.proofs.Closing.{both}
use Rattle.chain_control.proofs.Lists.{err_gives}
use Rattle.chain_control.proofs.Asks.{opened_stands, stays_stands, noted_stands, opened_there, few_wait, refused_so, refused_stands, waits_so, waits_stands, grants_so, grants_stands}
use Rattle.chain_control.proofs.chains.ChainsControl.ask.Goals as goal

pub returns-in_err-open-clause-same : goal.returns-in_err-open-clause-same
returns-in_err-open-clause-same g c = err_gives c.from_residual.result (λ loaded h stands. stays_stands g.row.KEEP c.args.self.now.table loaded h stands c.open.new.self c.in_err-open.ensures.err)

pub returns-in-Some-clause-answer : goal.returns-in-Some-clause-answer
returns-in-Some-clause-answer g c loaded h stands may =
    let st = opened_stands g.row.KEEP c.args.self.now.table loaded h stands c.args.key c.open.new.self c.in_ok-open.ensures.ok in
    let th = opened_there g.row.KEEP c.args.self.now.table loaded h stands c.args.key may.here.0 c.open.new.self may.here.1 c.in_ok-open.ensures.ok in
    refused_so g.row.KEEP c.open.new.self loaded h st c.args.who c.args.stamp c.args.key c.args.mode may th.0 th.1 c.in-Some.cause (sym c.in-Some.ensures)

pub returns-in-Some-clause-stands : goal.returns-in-Some-clause-stands
returns-in-Some-clause-stands g c loaded h stands may =
    let st = opened_stands g.row.KEEP c.args.self.now.table loaded h stands c.args.key c.open.new.self c.in_ok-open.ensures.ok in
    let th = opened_there g.row.KEEP c.args.self.now.table loaded h stands c.args.key may.here.0 c.open.new.self may.here.1 c.in_ok-open.ensures.ok in
    refused_stands g.row.KEEP c.open.new.self loaded h st c.args.who c.args.stamp c.args.key c.args.mode may th.0 th.1 c.in-Some.cause (sym c.in-Some.ensures)

pub wait-requires : goal.wait-requires
wait-requires g c =
    let m = c.requires.may in
    let st = opened_stands g.row.KEEP c.args.self.now.table m.0 m.1 m.2 c.args.key c.open.new.self c.in_ok-open.ensures.ok in
    record { few = few_wait g.row.KEEP c.open.new.self m.0 m.1 st c.args.who c.args.stamp c.args.key c.args.mode m.3 }

pub returns-then-is_stopped-clause-answer : goal.returns-then-is_stopped-clause-answer
returns-then-is_stopped-clause-answer g c =
    IfOk-weaker c.wait.result _ _ (λ a e loaded h stands may.
    let st = opened_stands g.row.KEEP c.args.self.now.table loaded h stands c.args.key c.open.new.self c.in_ok-open.ensures.ok in
    let th = opened_there g.row.KEEP c.args.self.now.table loaded h stands c.args.key may.here.0 c.open.new.self may.here.1 c.in_ok-open.ensures.ok in
    e ∙ waits_so g.row.KEEP c.open.new.self loaded h st c.args.who c.args.stamp c.args.key c.args.mode may th.0 th.1 (sym c.in_default.ensures) (sym c.is_stopped.ensures ∙ c.if-is_stopped.true)) c.wait.ensures.answer

pub returns-then-is_stopped-clause-stands : goal.returns-then-is_stopped-clause-stands
returns-then-is_stopped-clause-stands g c =
    both c.wait.result _ _ _
    (λ a e waits loaded h stands may.
    let st = opened_stands g.row.KEEP c.args.self.now.table loaded h stands c.args.key c.open.new.self c.in_ok-open.ensures.ok in
    let th = opened_there g.row.KEEP c.args.self.now.table loaded h stands c.args.key may.here.0 c.open.new.self may.here.1 c.in_ok-open.ensures.ok in
    subst (λ (x : Answer). Stands g.row.KEEP c.wait.new.self loaded (Ask c.args.who c.args.stamp c.args.key c.args.mode x ∷ h)) (sym e)
    (waits_stands g.row.KEEP c.open.new.self loaded h st c.args.who c.args.stamp c.args.key c.args.mode may th.0 th.1 (sym c.in_default.ensures) c.wait.new.self (sym c.is_stopped.ensures ∙ c.if-is_stopped.true) waits))
    c.wait.ensures.answer c.wait.ensures.ok

pub returns-then-is_stopped-clause-same : goal.returns-then-is_stopped-clause-same
returns-then-is_stopped-clause-same g c =
    on_err_weaker c.wait.result (λ e loaded h stands.
    noted_stands g.row.KEEP c.open.new.self loaded h (opened_stands g.row.KEEP c.args.self.now.table loaded h stands c.args.key c.open.new.self c.in_ok-open.ensures.ok) c.args.who c.args.stamp c.args.key c.wait.new.self e) c.wait.ensures.err

pub returns-else-is_stopped-clause-answer : goal.returns-else-is_stopped-clause-answer
returns-else-is_stopped-clause-answer g c =
    IfOk-weaker c.grant.result _ _ (λ a e loaded h stands may.
    let st = opened_stands g.row.KEEP c.args.self.now.table loaded h stands c.args.key c.open.new.self c.in_ok-open.ensures.ok in
    let th = opened_there g.row.KEEP c.args.self.now.table loaded h stands c.args.key may.here.0 c.open.new.self may.here.1 c.in_ok-open.ensures.ok in
    e ∙ grants_so g.row.KEEP c.open.new.self loaded h st c.args.who c.args.stamp c.args.key c.args.mode may th.0 th.1 (sym c.in_default.ensures) (sym c.is_stopped.ensures ∙ c.if-is_stopped.false)) c.grant.ensures.answer

pub returns-else-is_stopped-clause-stands : goal.returns-else-is_stopped-clause-stands
returns-else-is_stopped-clause-stands g c =
    both c.grant.result _ _ _
    (λ a e grants loaded h stands may.
    let st = opened_stands g.row.KEEP c.args.self.now.table loaded h stands c.args.key c.open.new.self c.in_ok-open.ensures.ok in
    let th = opened_there g.row.KEEP c.args.self.now.table loaded h stands c.args.key may.here.0 c.open.new.self may.here.1 c.in_ok-open.ensures.ok in
    subst (λ (x : Answer). Stands g.row.KEEP c.grant.new.self loaded (Ask c.args.who c.args.stamp c.args.key c.args.mode x ∷ h)) (sym e)
    (grants_stands g.row.KEEP c.open.new.self loaded h st c.args.who c.args.stamp c.args.key c.args.mode may th.0 th.1 (sym c.in_default.ensures) c.grant.new.self (sym c.is_stopped.ensures ∙ c.if-is_stopped.false) grants))
    c.grant.ensures.answer c.grant.ensures.ok

pub returns-else-is_stopped-clause-same : goal.returns-else-is_stopped-clause-same
returns-else-is_stopped-clause-same g c =
    on_err_weaker c.grant.result (λ e loaded h stands.
    noted_stands g.row.KEEP c.open.new.self loaded h (opened_stands g.row.KEEP c.args.self.now.table loaded h stands c.args.key c.open.new.self c.in_ok-open.ensures.ok) c.args.who c.args.stamp c.args.key c.grant.new.self e) c.grant.ensures.err
