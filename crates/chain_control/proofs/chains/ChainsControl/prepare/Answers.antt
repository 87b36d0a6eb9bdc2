use Rattle.std.proofs.Common.{◌∙◌, ◌∷◌, sym, subst}
use Rattle.std.proofs.lemmas.Result.{on_err_weaker, IfOk-weaker}
use Rattle.protocol_rules.specs.History.{Prepare}
use Rattle.deneva_base.specs.declared.answers.Vote.{Vote}
use Rattle.chain_control.specs.Standing.{Stands}
use Rattle.shelf.proofs.Closing.{both}
use Rattle.chain_control.proofs.Asks.{votes_so, votes_stands, reserved_stands}
use Rattle.chain_control.proofs.chains.ChainsControl.prepare.Goals as goal

pub returns-clause-vote : goal.returns-clause-vote
returns-clause-vote g c =
    IfOk-weaker c.prepare.result _ _ (λ v e loaded h stands may. e ∙ votes_so g.row.KEEP c.args.self.now.table loaded h stands c.args.who c.args._bound c.args.writes c.args.appends may) c.prepare.ensures.vote

pub returns-clause-stands : goal.returns-clause-stands
returns-clause-stands g c =
    both c.prepare.result _ _ _
    (λ v e promises loaded h stands may.
    subst (λ (x : Vote). Stands g.row.KEEP c.prepare.new.self loaded (Prepare c.args.who c.args._bound c.args.writes c.args.appends x ∷ h)) (sym e) (votes_stands g.row.KEEP c.args.self.now.table loaded h stands c.args.who c.args._bound c.args.writes c.args.appends may c.prepare.new.self promises))
    c.prepare.ensures.vote c.prepare.ensures.ok

pub returns-clause-same : goal.returns-clause-same
returns-clause-same g c =
    on_err_weaker c.prepare.result (λ e loaded h stands. reserved_stands g.row.KEEP c.args.self.now.table loaded h stands c.prepare.new.self e) c.prepare.ensures.err
