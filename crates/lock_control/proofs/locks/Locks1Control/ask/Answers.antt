use Rattle.std.proofs.Common.{sym, ◌∙◌, ◌∷◌, subst}
use Rattle.std.proofs.lemmas.Result.{on_err_weaker, IfOk-weaker}
use Rattle.protocol_rules.specs.History.{Ask}
use Rattle.deneva_base.specs.declared.answers.Answer.{Answer}
use Rattle.deneva_base.specs.declared.causes.Cause.TheVariants.{Younger}
use Rattle.protocol_rules.specs.WaitDie.{wait_die}
use Rattle.protocol_rules.proofs.WaitDies.{wait_die_wakes}
use Rattle.lock_control.specs.Standing.{Tracks, state_of}
use Rattle.shelf.proofs.Closing.{both}
use Rattle.lock_control.proofs.Asking.{ask_refused}
use Rattle.lock_control.proofs.Ending.{only_noted}
use Rattle.lock_control.proofs.Calls.{granted_tracks, waiting_tracks, knows, sounds, traces}
use Rattle.lock_control.proofs.Dying.{elder_is, wait_is, free_is, few_wait}
use Rattle.lock_control.proofs.locks.Locks1Control.ask.Goals as goal

pub wait-requires : goal.wait-requires
wait-requires c = let m = c.requires.may in record { few = few_wait c.args.self.now.table m.0 m.1 m.2 c.args.who c.args.stamp c.args.key m.3 }

pub returns-in-Some-clause-answer : goal.returns-in-Some-clause-answer
returns-in-Some-clause-answer c loaded h stands may =
    elder_is c.args.self.now.table loaded h stands c.args.who c.args.stamp c.args.key c.args.mode may c.in-Some.elder (sym c.in-Some.ensures)

pub returns-in-Some-clause-stands : goal.returns-in-Some-clause-stands
returns-in-Some-clause-stands c loaded h stands may =
    let t = c.args.self.now.table in
    record {
      obeys = (may, elder_is t loaded h stands c.args.who c.args.stamp c.args.key c.args.mode may c.in-Some.elder (sym c.in-Some.ensures), stands.obeys);
      tracks = ask_refused loaded h (knows wait_die wait_die_wakes t loaded h stands) (sounds wait_die wait_die_wakes t loaded h stands) (traces wait_die wait_die_wakes t loaded h stands) c.args.who c.args.stamp c.args.key c.args.mode may (state_of t) (Younger c.args.key c.in-Some.elder.who c.in-Some.elder.stamp) stands.tracks;
    }

pub returns-then-is_stopped-clause-answer : goal.returns-then-is_stopped-clause-answer
returns-then-is_stopped-clause-answer c =
    IfOk-weaker c.wait.result _ _ (λ a e loaded h stands may. e ∙ wait_is c.args.self.now.table loaded h stands c.args.who c.args.stamp c.args.key c.args.mode may (sym c.in-None.ensures) (sym c.is_stopped.ensures ∙ c.if-is_stopped.true)) c.wait.ensures.answer

pub returns-then-is_stopped-clause-stands : goal.returns-then-is_stopped-clause-stands
returns-then-is_stopped-clause-stands c =
    both c.wait.result _ _ _
    (λ a e adds loaded h stands may.
    let t = c.args.self.now.table in
    record {
      obeys = (may, e ∙ wait_is t loaded h stands c.args.who c.args.stamp c.args.key c.args.mode may (sym c.in-None.ensures) (sym c.is_stopped.ensures ∙ c.if-is_stopped.true), stands.obeys);
      tracks = subst (λ (x : Answer). Tracks loaded (state_of c.wait.new.self) (Ask c.args.who c.args.stamp c.args.key c.args.mode x ∷ h)) (sym e) (waiting_tracks wait_die wait_die_wakes t loaded h stands c.args.who c.args.stamp c.args.key c.args.mode c.wait.new.self may adds);
    })
    c.wait.ensures.answer c.wait.ensures.ok

pub returns-then-is_stopped-clause-same : goal.returns-then-is_stopped-clause-same
returns-then-is_stopped-clause-same c =
    on_err_weaker c.wait.result (λ e loaded h stands. record { obeys = stands.obeys; tracks = only_noted loaded h c.args.who c.args.stamp c.args.key c.args.self.now.table c.wait.new.self stands.tracks e }) c.wait.ensures.err

pub returns-else-is_stopped-clause-answer : goal.returns-else-is_stopped-clause-answer
returns-else-is_stopped-clause-answer c =
    IfOk-weaker c.grant.result _ _ (λ a e loaded h stands may. e ∙ free_is c.args.self.now.table loaded h stands c.args.who c.args.stamp c.args.key c.args.mode may (sym c.in-None.ensures) (sym c.is_stopped.ensures ∙ c.if-is_stopped.false)) c.grant.ensures.answer

pub returns-else-is_stopped-clause-stands : goal.returns-else-is_stopped-clause-stands
returns-else-is_stopped-clause-stands c =
    both c.grant.result _ _ _
    (λ a e adds loaded h stands may.
    let t = c.args.self.now.table in
    record {
      obeys = (may, e ∙ free_is t loaded h stands c.args.who c.args.stamp c.args.key c.args.mode may (sym c.in-None.ensures) (sym c.is_stopped.ensures ∙ c.if-is_stopped.false), stands.obeys);
      tracks = subst (λ (x : Answer). Tracks loaded (state_of c.grant.new.self) (Ask c.args.who c.args.stamp c.args.key c.args.mode x ∷ h)) (sym e) (granted_tracks wait_die wait_die_wakes t loaded h stands c.args.who c.args.stamp c.args.key c.args.mode _ _ _ c.grant.new.self may adds);
    })
    c.grant.ensures.answer c.grant.ensures.ok

pub returns-else-is_stopped-clause-same : goal.returns-else-is_stopped-clause-same
returns-else-is_stopped-clause-same c =
    on_err_weaker c.grant.result (λ e loaded h stands. record { obeys = stands.obeys; tracks = only_noted loaded h c.args.who c.args.stamp c.args.key c.args.self.now.table c.grant.new.self stands.tracks e }) c.grant.ensures.err
