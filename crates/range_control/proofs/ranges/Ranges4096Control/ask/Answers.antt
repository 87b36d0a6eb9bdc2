use Rattle.std.proofs.Common.{◌∷◌, ◌∙◌, sym, subst}
use Rattle.std.proofs.lemmas.Result.{on_err_weaker, IfOk-weaker}
use Rattle.protocol_rules.specs.History.{Ask}
use Rattle.deneva_base.specs.declared.answers.Answer.{Answer}
use Rattle.range_control.specs.Standing.{Tracks, state_of}
use Rattle.shelf.proofs.Closing.{both}
use Rattle.range_control.proofs.Asking.{only_noted}
use Rattle.range_control.proofs.Calls.{past_small, version_small, grant_is, grant_tracks}
use Rattle.range_control.proofs.ranges.Ranges4096Control.ask.Goals as goal

pub grant-requires-clause-past : goal.grant-requires-clause-past
grant-requires-clause-past c = let m = c.requires.may in past_small 4096 c.args.self.now.table m.0 m.1 m.2 c.args.key

pub grant-requires-clause-version : goal.grant-requires-clause-version
grant-requires-clause-version c = let m = c.requires.may in version_small 4096 c.args.self.now.table m.0 m.1 m.2 c.args.key m.3.here.0 m.3.here.1

pub returns-clause-answer : goal.returns-clause-answer
returns-clause-answer c =
    IfOk-weaker c.grant.result _ _ (λ a e loaded h stands may. e ∙ grant_is 4096 c.args.self.now.table loaded h stands c.args.who c.args.stamp c.args.key c.args.mode may) c.grant.ensures.answer

pub returns-clause-stands : goal.returns-clause-stands
returns-clause-stands c =
    both c.grant.result _ _ _
    (λ a e adds loaded h stands may. record {
      obeys = (may, e ∙ grant_is 4096 c.args.self.now.table loaded h stands c.args.who c.args.stamp c.args.key c.args.mode may, stands.obeys);
      tracks = subst (λ (x : Answer). Tracks loaded (state_of c.grant.new.self) (Ask c.args.who c.args.stamp c.args.key c.args.mode x ∷ h)) (sym e) (grant_tracks 4096 c.args.self.now.table loaded h stands c.args.who c.args.stamp c.args.key c.args.mode _ c.grant.new.self may adds);
    })
    c.grant.ensures.answer c.grant.ensures.ok

pub returns-clause-same : goal.returns-clause-same
returns-clause-same c =
    on_err_weaker c.grant.result (λ e loaded h stands. record { obeys = stands.obeys; tracks = only_noted loaded h c.args.who c.args.stamp c.args.key c.args.self.now.table c.grant.new.self stands.tracks e }) c.grant.ensures.err
