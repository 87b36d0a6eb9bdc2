use Rattle.std.proofs.Common.{rules, ◌^◌, ◌≡◌, false, not, ◌&&◌, ◌==◌, arith}
use Rattle.std.proofs.lemmas.Bool.{ltb-true}
use Rattle.std.specs.List.{list_any}
use Rattle.deneva_base.specs.Keys.{attempt_eq}
use Rattle.control_trials.proofs.Logs.{same_stamp, own_stamp}
use Rattle.control_trials.proofs.log.Log.may_have.Goals as goal

pub returns-then-stamp-ge1 : goal.returns-then-stamp-ge1
returns-then-stamp-ge1 c small h f =
    let log = c.args.self.now in
    let who = c.args.who in
    let stamp = c.args.stamp in
    let o : list_any (λ a. attempt_eq a.who who && not (a.stamp == stamp)) log.asks ≡ false = search rules in
    let t : list_any (λ a. not (a.who.txn.0 == who.txn.0) && (a.stamp == stamp)) log.asks ≡ false = search rules in
    record {
      same_stamp = same_stamp log h f who stamp o;
      own_stamp = own_stamp log h f who stamp t;
      positive = omega arith;
      small = ltb-true stamp (2 ^ 48) small;
    }
