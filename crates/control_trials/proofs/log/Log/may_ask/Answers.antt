use Rattle.std.proofs.Common.{rules, ◌≡◌, false, not, ◌&&◌, ◌==◌}
use Rattle.std.specs.List.{list_any}
use Rattle.deneva_base.specs.Keys.{key_eq, attempt_eq}
use Rattle.control_trials.specs.Trials.{trial_key}
use Rattle.control_trials.proofs.Logs.{once, others, there}
use Rattle.control_trials.proofs.log.Log.may_ask.Goals as goal

pub returns-then-not-has_rival-clause-may : goal.returns-then-not-has_rival-clause-may
returns-then-not-has_rival-clause-may c t loaded h rows f =
    let log = c.args.self.now in
    let who = c.args.who in
    let key = trial_key c.args.a in
    let o : list_any (λ a. attempt_eq a.who who && key_eq a.key key) log.asks ≡ false = search rules in
    let r : list_any (λ a. (a.who.txn.0 == who.txn.0) && (not (attempt_eq a.who who) && not (list_any (λ b. attempt_eq b a.who) log.aborted))) log.asks ≡ false = search rules in
    let idle = c.is_idle.ensures.may (search rules) h f in
    let may = c.may_have.ensures (search rules) h f in
    record {
      short = idle.running.short;
      here = there (loaded key) (rows key (search rules));
      unended = idle.running.unended;
      opened = idle.opened;
      unrefused = idle.unrefused;
      nowhere = idle.running.nowhere;
      once = once log h f who key o;
      others = others log h f who r;
      same_stamp = may.same_stamp;
      own_stamp = may.own_stamp;
      positive = may.positive;
      small = may.small;
    }
