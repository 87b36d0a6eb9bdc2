use Rattle.std.proofs.Common.{rules, ◌≡◌, true}
use Rattle.std.specs.List.{list_any}
use Rattle.deneva_base.specs.Keys.{attempt_eq}
use Rattle.control_trials.proofs.Logs.{has_asked}
use Rattle.control_trials.proofs.log.Log.may_abort.Goals as goal

pub returns-clause-may : goal.returns-clause-may
returns-clause-may c t h f =
    let log = c.args.self.now in
    let who = c.args.who in
    let a : list_any (λ a. attempt_eq a.who who) log.asks ≡ true = search rules in
    let runs = c.is_running.ensures.may (search rules) h f in
    record {
      short = runs.short;
      asked = has_asked log h f who a;
      nowhere = runs.nowhere;
      unended = runs.unended;
    }
