use Rattle.std.proofs.Common.{refl, ◌++◌, ◌∙◌, ap, arith, List, length}
use Rattle.std.proofs.lemmas.List.{nil_from_length}
use Rattle.std.proofs.lemmas.Result.{on_ok_weaker}
use Rattle.protocol_rules.specs.History.{Asked}
use Rattle.protocol_rules.specs.Timestamp.{timestamp}
use Rattle.shelf.proofs.Versions.{present, promised}
use Rattle.stamp_control.proofs.Calls.{wk, copies_distinct, spare, abort_few, abort_wakes, abort_tracks}
use Rattle.stamp_control.proofs.Idle.{nil_from_map}
use Rattle.stamp_control.proofs.stamps.StampsControl.abort.Goals as goal

pub end_and_wake-requires-clause-present : goal.end_and_wake-requires-clause-present
end_and_wake-requires-clause-present c = let m = c.requires.may in present (timestamp m.0) m.2.tracks.accesses.kept m.2.obeys (wk c.args.self.now.table m.0 m.1 m.2) c.args.who m.3.unended

pub end_and_wake-requires-clause-promised : goal.end_and_wake-requires-clause-promised
end_and_wake-requires-clause-promised c = let m = c.requires.may in promised (timestamp m.0) m.2.tracks.accesses.kept m.2.obeys c.args.who m.3.unended

pub end_and_wake-requires-clause-distinct : goal.end_and_wake-requires-clause-distinct
end_and_wake-requires-clause-distinct c = let m = c.requires.may in copies_distinct c.args.self.now.table m.0 m.1 m.2 c.args.who m.3.unended

pub end_and_wake-requires-clause-spare : goal.end_and_wake-requires-clause-spare
end_and_wake-requires-clause-spare c = let m = c.requires.may in spare c.args.self.now.table m.0 m.1 m.2 c.args.who m.3.unended

pub end_and_wake-requires-clause-few : goal.end_and_wake-requires-clause-few
end_and_wake-requires-clause-few c = let m = c.requires.may in abort_few c.args.self.now.table m.0 m.1 m.2 c.args.who m.3

pub returns-clause-woken : goal.returns-clause-woken
returns-clause-woken c =
    on_ok_weaker c.end_and_wake.result (λ e loaded h stands may. e ∙ ap (λ ws. c.args.woken.now ++ ws) (abort_wakes c.args.self.now.table loaded h stands c.args.who may)) c.end_and_wake.ensures.woken

pub returns-clause-stands : goal.returns-clause-stands
returns-clause-stands c =
    on_ok_weaker c.end_and_wake.result (λ e loaded h stands may. record { obeys = (may, refl, stands.obeys); tracks = abort_tracks c.args.self.now.table loaded h stands c.args.who may c.end_and_wake.new.self e }) c.end_and_wake.ensures.ok

pub returns-clause-quiet : goal.returns-clause-quiet
returns-clause-quiet c loaded h stands nothing =
    let m = c.requires.may in
    let few = abort_few c.args.self.now.table m.0 m.1 m.2 c.args.who m.3 in
    let waiting = stands.tracks.accesses.waiting in
    let zero = ap (λ (l : List Asked). length l) nothing in
    c.end_and_wake.ensures.idle (nil_from_length _ (omega (arith, few, waiting, zero)))

pub returns-clause-idle : goal.returns-clause-idle
returns-clause-idle c loaded h stands may nothing = c.end_and_wake.ensures.idle (nil_from_map _ _ (abort_wakes c.args.self.now.table loaded h stands c.args.who may ∙ nothing))
