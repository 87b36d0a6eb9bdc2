use Rattle.std.proofs.Common.{◌∙◌, ◌∷◌, sym, subst}
use Rattle.std.proofs.lemmas.Result.{on_err_weaker, IfOk-weaker}
use Rattle.protocol_rules.specs.History.{Prepare}
use Rattle.deneva_base.specs.declared.answers.Vote.{Vote}
use Rattle.stamp_control.specs.Standing.{Tracks, state_of}
use Rattle.shelf.proofs.Closing.{both}
use Rattle.stamp_control.proofs.Ending.{prepared_tracks, reserved_tracks}
use Rattle.stamp_control.proofs.Calls.{vote_is}
use Rattle.stamp_control.proofs.stamps.StampsControl.prepare.Goals as goal

pub returns-clause-vote : goal.returns-clause-vote
returns-clause-vote c =
    IfOk-weaker c.prepare.result _ _ (λ v e loaded h stands may. e ∙ vote_is c.args.self.now.table loaded h stands c.args.who c.args._bound c.args.writes c.args.appends may) c.prepare.ensures.vote

pub returns-clause-stands : goal.returns-clause-stands
returns-clause-stands c =
    both c.prepare.result _ _ _
    (λ v e promises loaded h stands may. record {
      obeys = (may, e ∙ vote_is c.args.self.now.table loaded h stands c.args.who c.args._bound c.args.writes c.args.appends may, stands.obeys);
      tracks = subst (λ (x : Vote). Tracks loaded (state_of c.prepare.new.self) (Prepare c.args.who c.args._bound c.args.writes c.args.appends x ∷ h)) (sym e) (prepared_tracks loaded h c.args.who c.args._bound c.args.writes c.args.appends may c.args.self.now.table c.prepare.new.self _ _ promises stands.tracks);
    })
    c.prepare.ensures.vote c.prepare.ensures.ok

pub returns-clause-same : goal.returns-clause-same
returns-clause-same c =
    on_err_weaker c.prepare.result (λ e loaded h stands. record { obeys = stands.obeys; tracks = reserved_tracks loaded h c.args.self.now.table c.prepare.new.self e stands.tracks }) c.prepare.ensures.err
