use Rattle.std.proofs.Common.{rules, ◌^◌, ◌≡◌, true, arith}
use Rattle.std.proofs.lemmas.Bool.{ltb-true}
use Rattle.std.specs.List.{list_any}
use Rattle.deneva_base.specs.Keys.{attempt_eq}
use Rattle.control_trials.proofs.Logs.{something}
use Rattle.control_trials.proofs.log.Log.may_close.Goals as goal

pub returns-then-has_any-clause-may : goal.returns-then-has_any-clause-may
returns-then-has_any-clause-may c small h f =
    let log = c.args.self.now in
    let who = c.args.who in
    let g : list_any (λ p. attempt_eq p.who who) log.grants ≡ true = search rules in
    let idle = c.is_idle.ensures.may (search rules) h f in
    record {
      short = idle.running.short;
      something = something log h f who g;
      nowhere = idle.running.nowhere;
      unrefused = idle.unrefused;
      opened = idle.opened;
      unended = idle.running.unended;
      small = ltb-true c.args.n (2 ^ 48) small;
      held = λ w i. absurd i;
      distinct = tt;
      distinct_appends = tt;
      tables = λ w i. absurd i;
    }
