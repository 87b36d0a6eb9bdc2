use Rattle.std.proofs.Common.{◌++◌, ◌∙◌, ap, arith, List, length}
use Rattle.std.proofs.lemmas.List.{nil_from_length}
use Rattle.std.proofs.lemmas.Result.{on_ok_weaker}
use Rattle.protocol_rules.specs.History.{Asked}
use Rattle.protocol_rules.specs.Mvcc.{mvcc}
use Rattle.shelf.proofs.Versions.{present, promised}
use Rattle.chain_control.proofs.Places.{nil_from_map}
use Rattle.chain_control.proofs.Calls.{wakes, commit_few, commit_wakes, commit_stands}
use Rattle.chain_control.proofs.chains.ChainsControl.commit.Goals as goal

pub end_and_wake-requires-clause-present : goal.end_and_wake-requires-clause-present
end_and_wake-requires-clause-present g c = let m = c.requires.may in present (mvcc g.row.KEEP m.0) m.2.tracks.kept m.2.obeys (wakes g.row.KEEP c.args.self.now.table m.0 m.1 m.2) c.args.who m.3.unended

pub end_and_wake-requires-clause-promised : goal.end_and_wake-requires-clause-promised
end_and_wake-requires-clause-promised g c = let m = c.requires.may in promised (mvcc g.row.KEEP m.0) m.2.tracks.kept m.2.obeys c.args.who m.3.unended

pub end_and_wake-requires-clause-few : goal.end_and_wake-requires-clause-few
end_and_wake-requires-clause-few g c = let m = c.requires.may in commit_few g.row.KEEP c.args.self.now.table m.0 m.1 m.2 c.args.who c.args.number m.3

pub returns-clause-woken : goal.returns-clause-woken
returns-clause-woken g c =
    on_ok_weaker c.end_and_wake.result (λ e loaded h stands may. e ∙ ap (λ ws. c.args.woken.now ++ ws) (commit_wakes g.row.KEEP c.args.self.now.table loaded h stands c.args.who c.args.number may)) c.end_and_wake.ensures.woken

pub returns-clause-stands : goal.returns-clause-stands
returns-clause-stands g c =
    on_ok_weaker c.end_and_wake.result (λ e loaded h stands may. commit_stands g.row.KEEP c.args.self.now.table loaded h stands c.args.who c.args.number may c.end_and_wake.new.self e) c.end_and_wake.ensures.ok

pub returns-clause-quiet : goal.returns-clause-quiet
returns-clause-quiet g c loaded h stands nothing =
    let m = c.requires.may in
    let few = commit_few g.row.KEEP c.args.self.now.table m.0 m.1 m.2 c.args.who c.args.number m.3 in
    let waiting = stands.tracks.waiting in
    let zero = ap (λ (l : List Asked). length l) nothing in
    c.end_and_wake.ensures.idle (nil_from_length _ (omega (arith, few, waiting, zero)))

pub returns-clause-idle : goal.returns-clause-idle
returns-clause-idle g c loaded h stands may nothing = c.end_and_wake.ensures.idle (nil_from_map _ _ (commit_wakes g.row.KEEP c.args.self.now.table loaded h stands c.args.who c.args.number may ∙ nothing))
