use Rattle.std.proofs.Common.{◌∙◌}
use Rattle.std.proofs.lemmas.Result.{on_err_weaker, IfOk-weaker}
use Rattle.range_control.proofs.Outcomes.{each}
use Rattle.range_control.proofs.Asking.{reserved}
use Rattle.range_control.proofs.Calls.{past_small, low_small, upper_small, vote_is, prepare_tracks}
use Rattle.range_control.proofs.ranges.Ranges4096Control.prepare.Goals as goal

pub prepare-requires-clause-past : goal.prepare-requires-clause-past
prepare-requires-clause-past c key = let m = c.requires.may in past_small 4096 c.args.self.now.table m.0 m.1 m.2 key

pub prepare-requires-clause-low : goal.prepare-requires-clause-low
prepare-requires-clause-low c key = let m = c.requires.may in low_small 4096 c.args.self.now.table m.0 m.1 m.2 c.args.who c.args.writes key m.3.unended

pub prepare-requires-clause-upper : goal.prepare-requires-clause-upper
prepare-requires-clause-upper c = let m = c.requires.may in upper_small 4096 c.args.self.now.table m.0 m.1 m.2 c.args.who c.args.bound c.args.writes c.args.appends m.3

pub returns-clause-vote : goal.returns-clause-vote
returns-clause-vote c =
    IfOk-weaker c.prepare.result _ _ (λ v e loaded h stands may. e ∙ vote_is 4096 c.args.self.now.table loaded h stands c.args.who c.args.bound c.args.writes c.args.appends may) c.prepare.ensures.vote

pub returns-clause-stands : goal.returns-clause-stands
returns-clause-stands c =
    each c.prepare.result _ _ _
    (λ v e votes loaded h stands may. record {
      obeys = (may, e ∙ vote_is 4096 c.args.self.now.table loaded h stands c.args.who c.args.bound c.args.writes c.args.appends may, stands.obeys);
      tracks = prepare_tracks 4096 c.args.self.now.table loaded h stands c.args.who c.args.bound c.args.writes c.args.appends may v c.prepare.new.self votes;
    })
    c.prepare.ensures.vote c.prepare.ensures.ok

pub returns-clause-same : goal.returns-clause-same
returns-clause-same c =
    on_err_weaker c.prepare.result (λ e loaded h stands. record { obeys = stands.obeys; tracks = reserved loaded h c.args.self.now.table c.prepare.new.self stands.tracks e }) c.prepare.ensures.err
