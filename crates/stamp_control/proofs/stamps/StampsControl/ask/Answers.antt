use Rattle.std.proofs.Common.{sym, ◌∙◌, ◌∷◌, subst}
use Rattle.std.proofs.lemmas.Result.{on_err_weaker, IfOk-weaker}
use Rattle.protocol_rules.specs.History.{Ask}
use Rattle.deneva_base.specs.declared.answers.Answer.{Answer}
use Rattle.stamp_control.specs.Standing.{Tracks, state_of}
use Rattle.shelf.proofs.Closing.{both}
use Rattle.stamp_control.proofs.Asking.{widened}
use Rattle.stamp_control.proofs.Calls.{once, few, refused_is, refuse_tracks, wait_is, wait_tracks, grant_is, grant_tracks}
use Rattle.stamp_control.proofs.stamps.StampsControl.ask.Goals as goal

pub wait-requires-clause-once : goal.wait-requires-clause-once
wait-requires-clause-once c = let m = c.requires.may in once c.args.self.now.table m.0 m.1 m.2 c.args.who c.args.stamp c.args.key c.args.mode m.3

pub wait-requires-clause-few : goal.wait-requires-clause-few
wait-requires-clause-few c = let m = c.requires.may in few c.args.self.now.table m.0 m.1 m.2 c.args.who c.args.stamp c.args.key c.args.mode m.3

pub grant-requires-clause-once : goal.grant-requires-clause-once
grant-requires-clause-once c = let m = c.requires.may in once c.args.self.now.table m.0 m.1 m.2 c.args.who c.args.stamp c.args.key c.args.mode m.3

pub grant-requires-clause-few : goal.grant-requires-clause-few
grant-requires-clause-few c = let m = c.requires.may in few c.args.self.now.table m.0 m.1 m.2 c.args.who c.args.stamp c.args.key c.args.mode m.3

pub returns-in-Some-clause-answer : goal.returns-in-Some-clause-answer
returns-in-Some-clause-answer c loaded h stands may =
    refused_is c.args.self.now.table loaded h stands c.args.who c.args.stamp c.args.key c.args.mode may c.in-Some.cause (sym c.in-Some.ensures)

pub returns-in-Some-clause-stands : goal.returns-in-Some-clause-stands
returns-in-Some-clause-stands c loaded h stands may = record {
  obeys = (may, refused_is c.args.self.now.table loaded h stands c.args.who c.args.stamp c.args.key c.args.mode may c.in-Some.cause (sym c.in-Some.ensures), stands.obeys);
  tracks = refuse_tracks c.args.self.now.table loaded h stands c.args.who c.args.stamp c.args.key c.args.mode may c.in-Some.cause;
}

pub returns-then-is_stopped-clause-answer : goal.returns-then-is_stopped-clause-answer
returns-then-is_stopped-clause-answer c =
    IfOk-weaker c.wait.result _ _ (λ a e loaded h stands may. e ∙ wait_is c.args.self.now.table loaded h stands c.args.who c.args.stamp c.args.key c.args.mode may (sym c.in_default.ensures) (sym c.is_stopped.ensures ∙ c.if-is_stopped.true)) c.wait.ensures.answer

pub returns-then-is_stopped-clause-stands : goal.returns-then-is_stopped-clause-stands
returns-then-is_stopped-clause-stands c =
    both c.wait.result _ _ _
    (λ a e changes loaded h stands may. record {
      obeys = (may, e ∙ wait_is c.args.self.now.table loaded h stands c.args.who c.args.stamp c.args.key c.args.mode may (sym c.in_default.ensures) (sym c.is_stopped.ensures ∙ c.if-is_stopped.true), stands.obeys);
      tracks = subst (λ (x : Answer). Tracks loaded (state_of c.wait.new.self) (Ask c.args.who c.args.stamp c.args.key c.args.mode x ∷ h)) (sym e) (wait_tracks c.args.self.now.table loaded h stands c.args.who c.args.stamp c.args.key c.args.mode may (sym c.in_default.ensures) c.wait.new.self (sym c.is_stopped.ensures ∙ c.if-is_stopped.true) changes);
    })
    c.wait.ensures.answer c.wait.ensures.ok

pub returns-then-is_stopped-clause-same : goal.returns-then-is_stopped-clause-same
returns-then-is_stopped-clause-same c =
    on_err_weaker c.wait.result (λ e loaded h stands. record { obeys = stands.obeys; tracks = widened loaded h c.args.self.now.table c.wait.new.self stands.tracks e }) c.wait.ensures.err

pub returns-else-is_stopped-clause-answer : goal.returns-else-is_stopped-clause-answer
returns-else-is_stopped-clause-answer c =
    IfOk-weaker c.grant.result _ _ (λ a e loaded h stands may. e ∙ grant_is c.args.self.now.table loaded h stands c.args.who c.args.stamp c.args.key c.args.mode may (sym c.in_default.ensures) (sym c.is_stopped.ensures ∙ c.if-is_stopped.false)) c.grant.ensures.answer

pub returns-else-is_stopped-clause-stands : goal.returns-else-is_stopped-clause-stands
returns-else-is_stopped-clause-stands c =
    both c.grant.result _ _ _
    (λ a e changes loaded h stands may. record {
      obeys = (may, e ∙ grant_is c.args.self.now.table loaded h stands c.args.who c.args.stamp c.args.key c.args.mode may (sym c.in_default.ensures) (sym c.is_stopped.ensures ∙ c.if-is_stopped.false), stands.obeys);
      tracks = subst (λ (x : Answer). Tracks loaded (state_of c.grant.new.self) (Ask c.args.who c.args.stamp c.args.key c.args.mode x ∷ h)) (sym e) (grant_tracks c.args.self.now.table loaded h stands c.args.who c.args.stamp c.args.key c.args.mode may c.grant.new.self _ _ _ changes);
    })
    c.grant.ensures.answer c.grant.ensures.ok

pub returns-else-is_stopped-clause-same : goal.returns-else-is_stopped-clause-same
returns-else-is_stopped-clause-same c =
    on_err_weaker c.grant.result (λ e loaded h stands. record { obeys = stands.obeys; tracks = widened loaded h c.args.self.now.table c.grant.new.self stands.tracks e }) c.grant.ensures.err
