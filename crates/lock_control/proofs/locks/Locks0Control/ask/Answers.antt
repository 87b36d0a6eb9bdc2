use Rattle.std.proofs.Common.{sym, ◌∙◌, ◌∷◌, subst}
use Rattle.std.proofs.lemmas.Result.{on_err_weaker, IfOk-weaker}
use Rattle.protocol_rules.specs.History.{Ask}
use Rattle.deneva_base.specs.declared.answers.Answer.{Answer}
use Rattle.deneva_base.specs.declared.causes.Cause.TheVariants.{Held}
use Rattle.protocol_rules.specs.NoWait.{no_wait}
use Rattle.lock_control.specs.Standing.{Tracks, state_of}
use Rattle.shelf.proofs.Closing.{both}
use Rattle.lock_control.proofs.Asking.{ask_refused}
use Rattle.lock_control.proofs.Ending.{only_noted}
use Rattle.lock_control.proofs.Calls.{granted_tracks, knows, sounds, traces}
use Rattle.lock_control.proofs.NoWaiting.{no_wait_wakes, held_is, free_is}
use Rattle.lock_control.proofs.locks.Locks0Control.ask.Goals as goal

pub returns-in-Some-clause-answer : goal.returns-in-Some-clause-answer
returns-in-Some-clause-answer c loaded h stands may =
    held_is c.args.self.now.table loaded h stands c.args.who c.args.stamp c.args.key c.args.mode may c.in-Some.owner (sym c.in-Some.ensures)

pub returns-in-Some-clause-stands : goal.returns-in-Some-clause-stands
returns-in-Some-clause-stands c loaded h stands may =
    let t = c.args.self.now.table in
    record {
      obeys = (may, held_is t loaded h stands c.args.who c.args.stamp c.args.key c.args.mode may c.in-Some.owner (sym c.in-Some.ensures), stands.obeys);
      tracks = ask_refused loaded h (knows no_wait no_wait_wakes t loaded h stands) (sounds no_wait no_wait_wakes t loaded h stands) (traces no_wait no_wait_wakes t loaded h stands) c.args.who c.args.stamp c.args.key c.args.mode may (state_of t) (Held c.args.key c.in-Some.owner.who) stands.tracks;
    }

pub returns-in-None-clause-answer : goal.returns-in-None-clause-answer
returns-in-None-clause-answer c =
    IfOk-weaker c.grant.result _ _ (λ a e loaded h stands may. e ∙ free_is c.args.self.now.table loaded h stands c.args.who c.args.stamp c.args.key c.args.mode may (sym c.in-None.ensures)) c.grant.ensures.answer

pub returns-in-None-clause-stands : goal.returns-in-None-clause-stands
returns-in-None-clause-stands c =
    both c.grant.result _ _ _
    (λ a e adds loaded h stands may.
    let t = c.args.self.now.table in
    record {
      obeys = (may, e ∙ free_is t loaded h stands c.args.who c.args.stamp c.args.key c.args.mode may (sym c.in-None.ensures), stands.obeys);
      tracks = subst (λ (x : Answer). Tracks loaded (state_of c.grant.new.self) (Ask c.args.who c.args.stamp c.args.key c.args.mode x ∷ h)) (sym e) (granted_tracks no_wait no_wait_wakes t loaded h stands c.args.who c.args.stamp c.args.key c.args.mode _ _ _ c.grant.new.self may adds);
    })
    c.grant.ensures.answer c.grant.ensures.ok

pub returns-in-None-clause-same : goal.returns-in-None-clause-same
returns-in-None-clause-same c =
    on_err_weaker c.grant.result (λ e loaded h stands. record { obeys = stands.obeys; tracks = only_noted loaded h c.args.who c.args.stamp c.args.key c.args.self.now.table c.grant.new.self stands.tracks e }) c.grant.ensures.err
